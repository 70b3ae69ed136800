-- The firings of a wave keep it lawful.
use Rattle.std.proofs.Common.{◌≡◌, refl, sym, ◌∙◌, ap, subst, ℕ, suc, ◌≤◌, ◌<◌, Bool, true, false, ◌&&◌, inl, inr, ◌⊎◌, arith, List, [], ◌∷◌, ◌++◌, length, map, flat_map, filter, Some, append_assoc}
use Rattle.std.specs.Prelude.{not}
use Rattle.soar_sym.specs.Equality.{symbol_eq}
use Rattle.soar_sym.specs.Letters.{last_of}
use Rattle.soar_sym.specs.Words.{IsKnown, Texts}
use Rattle.soar_sym.specs.declared.symbol.Sym.{Sym}
use Rattle.soar_sym.specs.declared.symbol.Sym.TheVariants.{Ident, Word, Int}
use Rattle.soar_rule.specs.Symbols.{constants_of, constants_of_action, constants_of_conditions}
use Rattle.soar_rule.specs.Variables.{bound_variables}
use Rattle.soar_wm.specs.declared.element.Element.{Element}
use Rattle.defs_match.specs.Conflict.{bindings_of, instances_of}
use Rattle.defs_match.specs.Rules.{RuleOf}
use Rattle.defs_match.specs.Testing.{symbol_of}
use Rattle.defs_match.specs.declared.instance.Instance.{Instance}
use Rattle.defs_soar.specs.declared.firing.Used.{Used}
use Rattle.defs_soar.specs.declared.preference.Wish.{Wish}
use Rattle.defs_soar.specs.Agents.{Agent, Names}
use Rattle.defs_soar.specs.Dependencies.{is_new_in, symbols_of_wish}
use Rattle.defs_soar.specs.Firing.{MadeSoFar}
use Rattle.defs_soar.specs.Goals.{is_goal}
use Rattle.defs_soar.specs.History.{FiringOf}
use Rattle.defs_soar.specs.Laws.{IsIn}
use Rattle.defs_soar.specs.Naming.{Naming}
use Rattle.defs_soar.specs.Pending.{depth_of, Firable, firable_of, is_justification, is_of_operator_kind}
use Rattle.defs_soar.specs.Sorted.{has_symbol}
use Rattle.defs_soar.specs.Uses.{all_uses, elements_matched}
use Rattle.defs_soar.specs.Values.{is_identifier}
use Rattle.defs_soar.specs.WaveAtHand.{all_fresh, Entry, supported_wish, SupportedWish, fired, Fresh, fresh_of, BeforeWave, Wave}
use Rattle.defs_soar.specs.WaveFirings.{firing_of_work, fresh_firing, made_in, before_wave, with_firing}
use Rattle.learning_laws.specs.Lawful.{IsLawfulFiring}
use Rattle.learning_laws.specs.LawfulAgents.{firings_of_agent, IsFounded, IsGiven, IsLawfulAgent, IsLiteral, IsNumbered}
use Rattle.learning_laws.specs.LawfulWaves.{AllFiringsKeep, FiringsKeep, fresh_firings, IsLawfulWave}
use Rattle.learning_laws.specs.BeforeWave.{CanBeMade}
use Rattle.learning_laws.specs.Record.{UseIsLawful}
use Rattle.learning_laws.specs.Waves.{IsSettled}
use Rattle.learning_laws.proofs.BindLaws.{binds_hold, matched_within, uses_ever}
use Rattle.learning_laws.proofs.FiringLaws.{firings_are_lawful, from_paired}
use Rattle.learning_laws.proofs.FoundedLaws.{lawful_agents_are_settled}
use Rattle.learning_laws.proofs.Lists.{any_in, both_true, filter_within, in_append, in_flat_map, in_left, in_map, in_right, same_itself}
use Rattle.learning_laws.proofs.MadeLaws.{made_can_be_made}
use Rattle.learning_laws.proofs.NamingLaws.{known_later, AreMade, Comes, IsGood, IsTidy, made_good}
use Rattle.learning_laws.proofs.DecideLaws.{new_made}
use Rattle.learning_laws.proofs.SettleLaws.{goal_there}
use Rattle.learning_laws.proofs.TableGrowth.{not_grown}
use Rattle.learning_laws.proofs.UseLaws.{uses_are_lawful}
use Rattle.learning_laws.proofs.FireLaws.{firing_founded, HasMore, IsFiringMore, literal_more}
use Rattle.learning_laws.proofs.ListedConstants.{listed_constant}
use Rattle.learning_laws.proofs.WorkLaws.{map_both, waves_begin}
use Rattle.defs_soar.specs.Pending.{firables_of, is_listed, may_fire, pending, pending_in}
use Rattle.defs_soar.specs.WaveFirings.{first_wave, with_firings}

-- a word or a number is known, and numbered
literal_known : (words : Texts) (s : Sym) → IsLiteral words s → IsKnown words s
literal_known words (Ident l n) h = absurd h
literal_known words (Word n) h = h
literal_known words (Int z) h = tt

literal_numbered : (words : Texts) (letters : List ℕ) (s : Sym) → IsLiteral words s → IsNumbered letters s
literal_numbered words letters (Ident l n) h = absurd h
literal_numbered words letters (Word n) h = tt
literal_numbered words letters (Int z) h = tt

module _ (a : Agent) (w : Wave) (rule : RuleOf) (i : Instance) (h : IsLawfulAgent a) (k : IsLawfulWave a w) (there : IsIn rule w.program.rules)
    (fires : is_justification rule.production.kind ≡ false) (match : IsIn i (instances_of a.holding.elements rule)) where
  abbrev m : BeforeWave
  m = before_wave a

  abbrev firable : Firable
  firable = firable_of a.holding.elements rule i

  abbrev made : MadeSoFar
  made = made_in w m firable

  abbrev f : FiringOf
  f = firing_of_work m w firable made

  abbrev ever : List Element
  ever = k.founded.elements.ever

  abbrev names : Names
  names = record w.names { words = made.naming.words; letters = made.naming.letters }

  -- ---- what it names

  Old : Sym → Type 0
  Old s = IsIn s i.binds ⊎ IsIn s (constants_of rule.production)

  bind_given : (s : Sym) → IsIn s i.binds → IsGiven w.names s
  bind_given s j = binds_hold (IsGiven w.names) rule a.holding.elements i match (λ e l. k.founded.elements.given e (k.founded.elements.present e l)) s j

  comes_old : (s : Sym) → Old s → Comes w.names.words w.names.letters Old s
  unfolding Comes
  comes_old (Ident l n) o = inl o
  comes_old (Word n) o = tt
  comes_old (Int z) o = tt

  literal : (s : Sym) → IsIn s (rule.production.vars ++ constants_of rule.production) → IsLiteral w.names.words s
  literal s j = k.founded.symbols.of_rules rule there fires s j

  constant : (s : Sym) → IsIn s (constants_of rule.production) → IsLiteral w.names.words s
  constant s j = literal s (in_right s rule.production.vars (constants_of rule.production) j)

  abbrev start : Naming
  start = record { bindings = bindings_of rule.production i; words = w.names.words; letters = w.names.letters; vars = rule.production.vars; totals = [] }

  from_start : (v : ℕ) (s : Sym) → symbol_of v (bindings_of rule.production i) ≡ Some s → IsIn s i.binds
  from_start v s q = from_paired (bound_variables rule.production.conditions) i.binds v s q

  tidy : IsTidy w.names.words w.names.letters Old start
  unfolding Old
  tidy = record {
    long = k.founded.symbols.letters;
    once = k.founded.symbols.once;
    since = not_grown w.names.words;
    above = λ l. same (last_of w.names.letters l);
    bound = λ v s q. let g = bind_given s (from_start v s q) in record { known = g.0; numbered = g.1; comes = comes_old s (inl (from_start v s q)) };
  }
    where
      same : (n : ℕ) → n ≤ n
      same n = omega arith

  good : AreMade w.names.words w.names.letters Old made
  unfolding Old
  good =
      made_good w.names.words w.names.letters Old a.holding.goals rule.production.actions start tidy
      (λ s j. let c = in_right s (constants_of_conditions rule.production.conditions) (flat_map constants_of_action rule.production.actions) j in
      ((literal_known w.names.words s (constant s c), literal_numbered w.names.words w.names.letters s (constant s c)), comes_old s (inr c)))

  pub more : HasMore w.names names
  more = record { words = good.tidy.since; letters = good.tidy.above; last_tag = refl; long = good.tidy.long; once = good.tidy.once }

  symbol_good : (s : Sym) → IsIn s (flat_map symbols_of_wish f.made) → IsGood w.names.words w.names.letters Old made.naming s
  symbol_good s j = let x = in_flat_map symbols_of_wish s f.made j in good.wishes x.0 x.1 s x.2

  -- ---- what it used

  used_ever : (u : Used) → IsIn u f.used → IsIn u.element ever
  used_ever u j =
      uses_ever ever m.reach m.rows (depth_of m.reach.goals firable) (elements_matched a.holding.elements i.tags) (λ e l. k.founded.elements.present e (matched_within a.holding.elements i.tags e l)) k.founded.elements.items
      k.founded.elements.selected u j

  settled : IsSettled m (suc w.last_firing)
  settled =
      let s = lawful_agents_are_settled a h in
      record {
        rows = s.rows;
        held = s.held;
        marks = s.marks;
        flags = s.flags;
        selections = s.selections;
        numbers = λ g j. let l : g.number ≤ w.last_firing = k.founded.history.last_is g (in_left g (firings_of_agent a) (fresh_firings w) j) in omega arith;
      }

  uses : (u : Used) → IsIn u f.used → UseIsLawful (firings_of_agent a) f u
  uses u j =
      uses_are_lawful m (suc w.last_firing) (depth_of m.reach.goals firable) (elements_matched a.holding.elements i.tags) f settled (λ e l. matched_within a.holding.elements i.tags e l) refl refl u j

  -- ---- that it is lawful

  goal_numbered : (l n : ℕ) → is_goal a.holding.goals (Ident l n) ≡ true → n ≤ last_of w.names.letters l
  goal_numbered l n q = let g = goal_there a.holding.goals (Ident l n) q in subst (IsNumbered w.names.letters) g.2 (k.founded.symbols.goals g.0 g.1).1.1

  lawful : IsLawfulFiring names.words f
  lawful = firings_are_lawful m w rule i names.words (record {
    matches = match;
    tags = λ e g x y q. k.founded.elements.tags e g (k.founded.elements.present e x) (k.founded.elements.present g y) q;
    named = λ e g x y q. k.founded.elements.tags e g (k.founded.elements.present e x) (element_ever g y) q;
    goals = goal_numbered;
    long = k.founded.symbols.letters;
    binds_known = λ s j. (bind_given s j).0;
    vars_known = λ s j. literal_known w.names.words s (literal s (in_left s rule.production.vars (constants_of rule.production) j));
    constants_known = λ s j. literal_known w.names.words s (constant s j);
    some_word = let low : 24 ≤ length w.names.words = k.founded.symbols.words in omega arith;
    table = not_grown names.words;
  })
    where
      element_ever : (e : Element) → IsIn e (map (λ (u : Used). u.element) f.used) → IsIn e ever
      element_ever e j = let u = in_map (λ (u : Used). u.element) e f.used j in subst (λ x. IsIn x ever) u.2 (used_ever u.0 u.1)

  -- ---- an identifier that is new in it is no goal

  not_new : (b : Bool) (s : Sym) (xs : List Sym) → has_symbol xs s ≡ false → IsIn s xs → ⊥
  not_new b s xs q j = let t = sym (any_in (symbol_eq s) s xs j (same_itself s)) ∙ q in absurd (cc)

  new_no_goal : (s : Sym) → is_new_in f s ≡ true → is_goal a.holding.goals s ≡ false
  unfolding Comes Old
  new_no_goal s q = go s (symbol_good s (new_made f s q)).comes (both_true (is_identifier s) _ q).0 apart
    where
      off : (b : Bool) → not b ≡ true → b ≡ false
      off true z = absurd (cc)
      off false z = refl

      apart : Old s → ⊥
      apart o =
          let p = both_true (has_symbol (flat_map symbols_of_wish f.made) s) (not (has_symbol i.binds s) && not (has_symbol (constants_of rule.production) s)) (both_true (is_identifier s) _ q).1 in
          let r = both_true (not (has_symbol i.binds s)) (not (has_symbol (constants_of rule.production) s)) p.1 in
          elim o [
            | inl j ↦ not_new true s i.binds (off (has_symbol i.binds s) r.0) j
            | inr j ↦ not_new true s (constants_of rule.production) (off (has_symbol (constants_of rule.production) s) r.1) j
          ]

      above : (l n : ℕ) (b : Bool) → is_goal a.holding.goals (Ident l n) ≡ b → last_of w.names.letters l < n → b ≡ false
      above l n true z less = let low : n ≤ last_of w.names.letters l = goal_numbered l n z in absurd (omega arith)
      above l n false z less = refl

      go : (s : Sym) → Comes w.names.words w.names.letters Old s → is_identifier s ≡ true → (Old s → ⊥) → is_goal a.holding.goals s ≡ false
      go (Ident l n) (inl o) z none = absurd (none o)
      go (Ident l n) (inr less) z none = above l n (is_goal a.holding.goals (Ident l n)) refl less
      go (Word n) c z none = absurd (cc)
      go (Int y) c z none = absurd (cc)

  -- ---- the wave after it

  is_more : IsFiringMore a w names f ever
  is_more = record {
    number = refl;
    lawful = lawful;
    stand = k.founded.stand rule there;
    listed = λ s j. literal_more w.names.words names.words s more.words (constant s (in_left s (constants_of_conditions rule.production.conditions) (flat_map constants_of_action rule.production.actions) (listed_constant rule.production.conditions s j)));
    known = λ s j. known_later w.names.words names.words s more.words (elim (in_append s i.binds (constants_of rule.production) j) [ inl y ↦ (bind_given s y).0 | inr y ↦ literal_known w.names.words s (constant s y) ]);
    uses = uses;
    used = used_ever;
    made = λ s j. let g = symbol_good s j in (g.known, g.numbered);
    new = new_no_goal;
  }

  abbrev kind : Bool
  kind = is_of_operator_kind m.reach.goals firable

  abbrev fresh : Fresh
  fresh = fresh_firing m f kind made

  all_fresh_more : (entries : List Entry) → all_fresh (entries ++ fired fresh ∷ []) ≡ all_fresh entries ++ fresh ∷ []
  all_fresh_more [] = refl
  all_fresh_more (e ∷ entries) = ap (λ l. fresh_of e ++ l) (all_fresh_more entries) ∙ sym (append_assoc (fresh_of e) (all_fresh entries) (fresh ∷ []))

  firings_more : map (λ (x : Fresh). x.firing) (all_fresh (w.entries ++ fired fresh ∷ [])) ≡ fresh_firings w ++ f ∷ []
  firings_more = ap (map (λ (x : Fresh). x.firing)) (all_fresh_more w.entries) ∙ map_both (λ (x : Fresh). x.firing) (all_fresh w.entries) (fresh ∷ [])

  each_fresh : (P : Fresh → Type 0) → ((x : Fresh) → IsIn x (all_fresh w.entries) → P x) → P fresh → (x : Fresh) → IsIn x (all_fresh (w.entries ++ fired fresh ∷ [])) → P x
  each_fresh P old new x j =
      elim (in_append x (all_fresh w.entries) (fresh ∷ []) (subst (λ l. IsIn x l) (all_fresh_more w.entries) j)) [ inl l ↦ old x l | inr l ↦ elim l [ inl e ↦ subst P e new | inr z ↦ absurd z ] ]

  pub fires_on : IsLawfulWave a (with_firing m w firable)
  fires_on = record {
    founded = subst (λ l. IsFounded names a.holding a.queues.input w.program.rules (suc w.last_firing) (firings_of_agent a ++ l)) (sym firings_more) (firing_founded a w k names more f is_more);
    wishes = each_fresh (λ x. (y : SupportedWish) → IsIn y x.wishes → IsIn y.wish x.firing.made) k.wishes
        (λ y j. let x = in_map (supported_wish m.reach.goals kind) y made.wishes j in subst (λ (z : SupportedWish). IsIn z.wish made.wishes) x.2 x.1);
    counted = let l : a.counts.firings ≤ w.last_firing = k.counted in omega arith;
    later = each_fresh (λ x. a.counts.firings < x.firing.number) k.later (let l : a.counts.firings ≤ w.last_firing = k.counted in omega arith);
    explains = each_fresh (λ x. (elements : List Element) × ((e : Element) → IsIn e elements → IsIn e a.holding.elements) × (x.firing.used ≡ all_uses m.reach m.rows x.firing.depth elements)) k.explains
        (elements_matched a.holding.elements i.tags, (λ e l. matched_within a.holding.elements i.tags e l), refl);
    can = each_fresh (λ x. (u : Wish) → IsIn u x.firing.made → CanBeMade a.holding.goals u) k.can (λ u j. made_can_be_made a.holding.goals rule.production.actions start u j);
  }

pub firings_keep : FiringsKeep
firings_keep a w rule i h k there fires match = fires_on a w rule i h k there fires match

-- ---- all firings of a wave

-- the firable is an instance of one of these rules, and its rule may fire
pub record MayFire (a : Agent) (x : Firable) : Type 0 where
  pub rule : RuleOf
  pub instance : Instance
  pub there : IsIn rule a.program.rules
  pub fires : is_justification rule.production.kind ≡ false
  pub matches : IsIn instance (instances_of a.holding.elements rule)
  pub is : firable_of a.holding.elements rule instance ≡ x

each_fires : (a : Agent) (w : Wave) (xs : List Firable) → IsLawfulAgent a → IsLawfulWave a w → w.program.rules ≡ a.program.rules → ((x : Firable) → IsIn x xs → MayFire a x) → IsLawfulWave a (with_firings (before_wave a) w xs)
unfolding with_firings
each_fires a w [] h k same all = k
each_fires a w (x ∷ xs) h k same all =
    let one = all x (inl refl) in
    each_fires a (with_firing (before_wave a) w x) xs h
    (subst (λ y. IsLawfulWave a (with_firing (before_wave a) w y)) one.is (fires_on a w one.rule one.instance h k (subst (λ l. IsIn one.rule l) (sym same) one.there) one.fires one.matches)) same (λ y j. all y (inr j))

pub pending_fires : (a : Agent) (proposing : Bool) (x : Firable) → IsIn x (pending proposing a).fired → MayFire a x
unfolding pending_in
pending_fires a proposing x i =
    let level = filter_within _ (filter (may_fire proposing a.holding.goals a.holding.live) (flat_map (firables_of a.holding.elements) a.program.rules)) x i in
    let may = filter_within (may_fire proposing a.holding.goals a.holding.live) (flat_map (firables_of a.holding.elements) a.program.rules) x level.0 in
    let of_rule = in_flat_map (firables_of a.holding.elements) x a.program.rules may.0 in
    let of_instance = in_map (firable_of a.holding.elements of_rule.0) x (instances_of a.holding.elements of_rule.0) of_rule.2 in
    let rest = (both_true (not (is_listed (map (λ l. l.instance) a.holding.live) x.instance)) _ may.1).1 in
    let off = (both_true (not (is_justification x.rule.production.kind)) _ rest).0 in
    record {
      rule = of_rule.0;
      instance = of_instance.0;
      there = of_rule.1;
      fires = ap (λ (y : Firable). is_justification y.rule.production.kind) of_instance.2 ∙ not_true (is_justification x.rule.production.kind) off;
      matches = of_instance.1;
      is = of_instance.2;
    }
  where
    not_true : (b : Bool) → not b ≡ true → b ≡ false
    not_true true z = absurd (cc)
    not_true false z = refl

pub all_firings_keep : AllFiringsKeep
all_firings_keep a proposing h = each_fires a (first_wave a) (pending proposing a).fired h (waves_begin a h) refl (λ x i. pending_fires a proposing x i)
