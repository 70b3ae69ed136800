-- A learned rule that joins a wave, with its firing, keeps it lawful.
use Rattle.std.proofs.Common.{◌≡◌, refl, sym, ◌∙◌, ap, subst, ℕ, suc, ◌≤◌, ◌<◌, true, false, inl, inr, arith, List, [], ◌∷◌, ◌++◌, map, flat_map, append_assoc}
use Rattle.soar_sym.specs.Letters.{last_of}
use Rattle.soar_sym.specs.Words.{IsKnown}
use Rattle.soar_sym.specs.declared.symbol.Sym.{Sym}
use Rattle.soar_rule.specs.Productions.{ProductionOf}
use Rattle.soar_rule.specs.Symbols.{constants_of}
use Rattle.soar_wm.specs.declared.element.Element.{Element}
use Rattle.defs_match.specs.Rules.{RuleOf}
use Rattle.defs_soar.specs.declared.preference.Wish.{Wish}
use Rattle.defs_soar.specs.Agents.{Agent}
use Rattle.defs_soar.specs.Dependencies.{is_new_in, symbols_of_wish}
use Rattle.defs_soar.specs.Events.{by_learned, LearningEvent}
use Rattle.defs_soar.specs.Goals.{is_goal}
use Rattle.defs_soar.specs.History.{FiringOf}
use Rattle.defs_soar.specs.Laws.{IsIn}
use Rattle.defs_soar.specs.LearnedFirings.{as_fresh, learned_firing, learned_kind, ExplainedFiring, with_supports_by, with_learned}
use Rattle.defs_soar.specs.Pending.{is_justification}
use Rattle.defs_soar.specs.Support.{match_depth}
use Rattle.defs_soar.specs.Uses.{all_uses}
use Rattle.defs_soar.specs.WaveAtHand.{all_fresh, Entry, supported_wish, SupportedWish, fired, Fresh, fresh_of, BeforeWave, noted, Wave}
use Rattle.defs_soar.specs.WaveFirings.{before_wave, reach_of}
use Rattle.learning_laws.specs.Lawful.{IsLawfulFiring}
use Rattle.learning_laws.specs.LawfulAgents.{AreGiven, firings_of_agent, IsFounded, IsLawfulAgent, IsLiteral}
use Rattle.learning_laws.specs.LawfulWaves.{fresh_firings, IsLawfulWave}
use Rattle.learning_laws.specs.Listed.{listed_of_all}
use Rattle.learning_laws.specs.BeforeWave.{CanBeMade}
use Rattle.learning_laws.specs.Ready.{NegationsStand}
use Rattle.learning_laws.specs.Waves.{IsSettled}
use Rattle.learning_laws.proofs.BindLaws.{uses_ever}
use Rattle.learning_laws.proofs.FireLaws.{firing_founded, HasMore, IsFiringMore}
use Rattle.learning_laws.proofs.FoundedLaws.{lawful_agents_are_settled}
use Rattle.learning_laws.proofs.Lists.{in_append, in_left, in_map}
use Rattle.learning_laws.proofs.TableGrowth.{not_grown}
use Rattle.learning_laws.proofs.LearnedRuleLaws.{each_before, firings_same, IsAsBefore}
use Rattle.learning_laws.proofs.UseLaws.{uses_are_lawful}
use Rattle.learning_laws.proofs.WorkLaws.{map_both}

abbrev pub joining_firing : Agent → Wave → ExplainedFiring → ProductionOf → List Element → List Sym → FiringOf
joining_firing a v l production elements binds =
    learned_firing (before_wave a) v.names.words (suc v.last_firing) (record { number = suc v.program.last_rule; production = production }) elements binds l.chain.results

-- what is to be known of the rule and of its firing
pub record IsJoining (a : Agent) (v : Wave) (l : ExplainedFiring) (production : ProductionOf) (elements : List Element) (binds : List Sym) : Type 0 where
  pub within : (e : Element) → IsIn e elements → IsIn e a.holding.elements
  pub stand : NegationsStand production
  pub literal : is_justification production.kind ≡ false → (s : Sym) → IsIn s (production.vars ++ constants_of production) → IsLiteral v.names.words s
  pub lawful : IsLawfulFiring v.names.words (joining_firing a v l production elements binds)
  pub listed : (s : Sym) → IsIn s (listed_of_all production.conditions) → IsLiteral v.names.words s
  pub known : (s : Sym) → IsIn s (binds ++ constants_of production) → IsKnown v.names.words s
  pub made : AreGiven v.names (flat_map symbols_of_wish l.chain.results)
  pub new : (s : Sym) → is_new_in (joining_firing a v l production elements binds) s ≡ true → is_goal a.holding.goals s ≡ false
  pub can : (u : Wish) → IsIn u l.chain.results → CanBeMade a.holding.goals u

pub fresh_told : (entries : List Entry) (learning_event : LearningEvent) → all_fresh (entries ++ noted learning_event ∷ []) ≡ all_fresh entries
fresh_told [] learning_event = refl
fresh_told (e ∷ entries) learning_event = ap (λ l. fresh_of e ++ l) (fresh_told entries learning_event)

pub fresh_more : (entries : List Entry) (x : Fresh) → all_fresh (entries ++ fired x ∷ []) ≡ all_fresh entries ++ x ∷ []
fresh_more [] x = refl
fresh_more (e ∷ entries) x = ap (λ l. fresh_of e ++ l) (fresh_more entries x) ∙ sym (append_assoc (fresh_of e) (all_fresh entries) (x ∷ []))

module _ (a : Agent) (l : ExplainedFiring) (production : ProductionOf) (elements : List Element) (binds : List Sym) (learning_event : ℕ → List ℕ → LearningEvent) (v : Wave) (h : IsLawfulAgent a) (k : IsLawfulWave a v)
    (j : IsJoining a v l production elements binds) where
  abbrev m : BeforeWave
  m = before_wave a

  abbrev rule : RuleOf
  rule = record { number = suc v.program.last_rule; production = production }

  abbrev f : FiringOf
  f = joining_firing a v l production elements binds

  abbrev ruled : Wave
  ruled = record v { program = record v.program { rules = v.program.rules ++ rule ∷ [] } }

  abbrev firings : List FiringOf
  firings = firings_of_agent a ++ fresh_firings v

  -- ---- a rule more

  each_rule : (P : RuleOf → Type 0) → ((r : RuleOf) → IsIn r v.program.rules → P r) → P rule → (r : RuleOf) → IsIn r (v.program.rules ++ rule ∷ []) → P r
  each_rule P old new r i = elim (in_append r v.program.rules (rule ∷ []) i) [ inl y ↦ old r y | inr y ↦ elim y [ inl e ↦ subst P e new | inr z ↦ absurd z ] ]

  rule_founded : IsFounded v.names a.holding a.queues.input (v.program.rules ++ rule ∷ []) v.last_firing firings
  rule_founded =
      let o = k.founded in
      record {
        symbols = record {
          letters = o.symbols.letters;
          words = o.symbols.words;
          once = o.symbols.once;
          links = o.symbols.links;
          goals = o.symbols.goals;
          inputs = o.symbols.inputs;
          queued = o.symbols.queued;
          of_rules = each_rule (λ r. is_justification r.production.kind ≡ false → (s : Sym) → IsIn s (r.production.vars ++ constants_of r.production) → IsLiteral v.names.words s) o.symbols.of_rules j.literal;
          made = o.symbols.made;
        };
        elements = record {
          ever = o.elements.ever;
          tags = o.elements.tags;
          last = o.elements.last;
          ids = o.elements.ids;
          given = o.elements.given;
          present = o.elements.present;
          used = o.elements.used;
          items = o.elements.items;
          selected = o.elements.selected;
        };
        history = o.history;
        rows = o.rows;
        accepted = o.accepted;
        selections = o.selections;
        stand = each_rule (λ r. NegationsStand r.production) o.stand j.stand;
      }

  rule_keeps : IsLawfulWave a ruled
  rule_keeps = record { founded = rule_founded; wishes = k.wishes; counted = k.counted; later = k.later; explains = k.explains; can = k.can }

  -- ---- its firing

  settled : IsSettled m (suc v.last_firing)
  settled =
      let s = lawful_agents_are_settled a h in
      record {
        rows = s.rows;
        held = s.held;
        marks = s.marks;
        flags = s.flags;
        selections = s.selections;
        numbers = λ g i. let low : g.number ≤ v.last_firing = k.founded.history.last_is g (in_left g (firings_of_agent a) (fresh_firings v) i) in omega arith;
      }

  same_names : HasMore v.names v.names
  same_names =
      record { words = not_grown v.names.words; letters = λ n. same (last_of v.names.letters n); last_tag = refl; long = k.founded.symbols.letters; once = k.founded.symbols.once }
    where
      same : (n : ℕ) → n ≤ n
      same n = omega arith

  is_more : IsFiringMore a ruled v.names f k.founded.elements.ever
  is_more = record {
    number = refl;
    lawful = j.lawful;
    stand = j.stand;
    listed = j.listed;
    known = j.known;
    uses = λ u i. uses_are_lawful m (suc v.last_firing) (match_depth m.reach.goals elements) elements f settled j.within refl refl u i;
    used = λ u i.
        uses_ever k.founded.elements.ever m.reach m.rows (match_depth m.reach.goals elements) elements (λ e y. k.founded.elements.present e (j.within e y)) k.founded.elements.items k.founded.elements.selected u i;
    made = j.made;
    new = j.new;
  }

  -- ---- the wave after it

  abbrev told_as : LearningEvent
  told_as = learning_event f.number f.instance.tags

  abbrev fresh : Fresh
  fresh = as_fresh m l f elements told_as

  abbrev before : List Entry
  before = map (with_supports_by l.explained.number l.takes_over by_learned) v.entries

  firings_more : map (λ (x : Fresh). x.firing) (all_fresh (before ++ fired fresh ∷ [])) ≡ fresh_firings v ++ f ∷ []
  firings_more =
      ap (map (λ (x : Fresh). x.firing)) (fresh_more before fresh)
      ∙ map_both (λ (x : Fresh). x.firing) (all_fresh before) (fresh ∷ [])
      ∙ ap (λ fs. fs ++ f ∷ []) (ap (map (λ (x : Fresh). x.firing)) (sym (fresh_told before told_as)) ∙ firings_same l.explained.number l.takes_over by_learned told_as v.entries)

  each_fresh : (P : Fresh → Type 0) → ((x : Fresh) → IsAsBefore v.entries x → P x) → P fresh → (x : Fresh) → IsIn x (all_fresh (before ++ fired fresh ∷ [])) → P x
  each_fresh P old new x i =
      elim (in_append x (all_fresh before) (fresh ∷ []) (subst (λ fs. IsIn x fs) (fresh_more before fresh) i)) [
        | inl y ↦ old x (each_before l.explained.number l.takes_over by_learned told_as v.entries x (subst (λ fs. IsIn x fs) (sym (fresh_told before told_as)) y))
        | inr y ↦ elim y [ inl e ↦ subst P e new | inr z ↦ absurd z ]
      ]

  pub joining_keeps : IsLawfulWave a (with_learned m l production elements binds learning_event v)
  unfolding rule_keeps rule_founded
  joining_keeps = record {
    founded = subst (λ fs. IsFounded v.names a.holding a.queues.input (v.program.rules ++ rule ∷ []) (suc v.last_firing) (firings_of_agent a ++ fs)) (sym firings_more) (firing_founded a ruled rule_keeps v.names same_names f is_more);
    wishes = each_fresh (λ x. (y : SupportedWish) → IsIn y x.wishes → IsIn y.wish x.firing.made)
        (λ x b y i. let z = b.wishes y i in subst (λ (g : FiringOf). IsIn y.wish g.made) b.firing (subst (λ u. IsIn u b.before.firing.made) z.2 (k.wishes b.before b.there z.0 z.1)))
        (λ y i. let x = in_map (supported_wish m.reach.goals (learned_kind m l f elements)) y f.made i in subst (λ (z : SupportedWish). IsIn z.wish f.made) x.2 x.1);
    counted = let low : a.counts.firings ≤ v.last_firing = k.counted in omega arith;
    later = each_fresh (λ x. a.counts.firings < x.firing.number) (λ x b. subst (λ (g : FiringOf). a.counts.firings < g.number) b.firing (k.later b.before b.there)) (let low : a.counts.firings ≤ v.last_firing = k.counted in omega arith);
    explains = each_fresh (λ x. (elements : List Element) × ((e : Element) → IsIn e elements → IsIn e a.holding.elements) × (x.firing.used ≡ all_uses (reach_of a) a.holding.rows x.firing.depth elements))
        (λ x b.
        subst (λ (g : FiringOf). (elements : List Element) × ((e : Element) → IsIn e elements → IsIn e a.holding.elements) × (g.used ≡ all_uses (reach_of a) a.holding.rows g.depth elements)) b.firing (k.explains b.before b.there))
        (elements, j.within, refl);
    can = each_fresh (λ x. (u : Wish) → IsIn u x.firing.made → CanBeMade a.holding.goals u)
        (λ x b u i. k.can b.before b.there u (subst (λ (g : FiringOf). IsIn u g.made) (sym b.firing) i)) j.can;
  }
