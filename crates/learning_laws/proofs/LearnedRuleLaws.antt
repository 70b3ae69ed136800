-- Words that join the table keep a wave lawful, and so do a learning step without a rule, and doing without learning.
use Rattle.std.proofs.Common.{◌≡◌, refl, sym, ◌∙◌, ap, subst, ℕ, ◌+◌, ◌≤◌, ◌<◌, Bool, true, false, ◌==◌, nat_lt, cond, inl, inr, arith, List, [], ◌∷◌, ◌++◌, length, map, length-append}
use Rattle.soar_sym.specs.Letters.{last_of}
use Rattle.soar_wm.specs.declared.element.Element.{Element}
use Rattle.defs_soar.specs.declared.preference.Wish.{Wish}
use Rattle.defs_soar.specs.Agents.{Agent, Names}
use Rattle.defs_soar.specs.Events.{by_instance, WishSupport, LearningEvent}
use Rattle.defs_soar.specs.History.{FiringOf}
use Rattle.defs_soar.specs.Laws.{IsIn}
use Rattle.defs_soar.specs.Learning.{results_by_instance, without_learning}
use Rattle.defs_soar.specs.LearnedFirings.{with_support_by, with_supports_by}
use Rattle.defs_soar.specs.Results.{is_result}
use Rattle.defs_soar.specs.LearnedRules.{with_joined_word}
use Rattle.defs_soar.specs.Uses.{all_uses}
use Rattle.defs_soar.specs.WaveFirings.{before_wave, reach_of}
use Rattle.defs_soar.specs.WaveAtHand.{all_fresh, Entry, SupportedWish, fired, Fresh, BeforeWave, noted, Wave}
use Rattle.learning_laws.specs.LawfulAgents.{firings_of_agent, IsFounded}
use Rattle.learning_laws.specs.LawfulWaves.{DoingWithoutKeeps, fresh_firings, IsLawfulWave, StepsWithoutRuleKeep, NamesKeep}
use Rattle.learning_laws.proofs.FireLaws.{given_more, HasMore, literal_more}
use Rattle.learning_laws.proofs.Lists.{in_map}
use Rattle.learning_laws.proofs.NamingLaws.{known_later, once_read}
use Rattle.learning_laws.proofs.TableGrowth.{grown_by_text, grown_twice}

-- ---- more names

module _ (a : Agent) (w : Wave) (names : Names) (more : HasMore w.names names) (k : IsLawfulWave a w) where
  names_founded : IsFounded names a.holding a.queues.input w.program.rules w.last_firing (firings_of_agent a ++ fresh_firings w)
  names_founded =
      let o = k.founded in
      record {
        symbols = record {
          letters = more.long;
          words = let low : 24 ≤ length w.names.words = o.symbols.words in let size : length names.words ≡ length w.names.words + length more.words.0 = ap length more.words.1 ∙ length-append w.names.words more.words.0 in omega arith;
          once = more.once;
          links = let low : 3 ≤ last_of w.names.letters 73 = o.symbols.links in let high : last_of w.names.letters 73 ≤ last_of names.letters 73 = more.letters 73 in omega arith;
          goals = λ g i. let x = o.symbols.goals g i in (x.0, given_more w.names names g.id more x.1);
          inputs = λ t i s j. given_more w.names names s more (o.symbols.inputs t i s j);
          queued = λ q i s j. given_more w.names names s more (o.symbols.queued q i s j);
          of_rules = λ r i j s l. literal_more w.names.words names.words s more.words (o.symbols.of_rules r i j s l);
          made = λ g i s j. given_more w.names names s more (o.symbols.made g i s j);
        };
        elements = record {
          ever = o.elements.ever;
          tags = o.elements.tags;
          last = λ e i. subst (λ n. e.tag ≤ n) (sym more.last_tag) (o.elements.last e i);
          ids = o.elements.ids;
          given = λ e i s j. given_more w.names names s more (o.elements.given e i s j);
          present = o.elements.present;
          used = o.elements.used;
          items = o.elements.items;
          selected = o.elements.selected;
        };
        history = record {
          each = λ g i. let l = o.history.each g i in record { passes = l.passes; makes = λ later grown. l.makes later (grown_twice w.names.words names.words later more.words grown) };
          stand = o.history.stand;
          numbers = o.history.numbers;
          last_is = o.history.last_is;
          uses = o.history.uses;
          listed = λ g i s j. literal_more w.names.words names.words s more.words (o.history.listed g i s j);
          known = λ g i s j. known_later w.names.words names.words s more.words (o.history.known g i s j);
          new = o.history.new;
        };
        rows = o.rows;
        accepted = o.accepted;
        selections = o.selections;
        stand = o.stand;
      }

  pub more_names : IsLawfulWave a (record w { names = names })
  more_names = record { founded = names_founded; wishes = k.wishes; counted = k.counted; later = k.later; explains = k.explains; can = k.can }

word_keeps : (a : Agent) (w : Wave) (text : List ℕ) → IsLawfulWave a w → IsLawfulWave a (with_joined_word text w)
word_keeps a w text k =
    let n = more_names a w (with_joined_word text w).names (record {
      words = grown_by_text w.names.words text;
      letters = λ l. same (last_of w.names.letters l);
      last_tag = refl;
      long = k.founded.symbols.letters;
      once = once_read w.names.words text k.founded.symbols.once;
    }) k in
    record { founded = n.founded; wishes = n.wishes; counted = n.counted; later = n.later; explains = n.explains; can = n.can }
  where
    same : (n : ℕ) → n ≤ n
    same n = omega arith

pub names_keep : NamesKeep
names_keep a w [] k = k
names_keep a w (text ∷ texts) k = names_keep a (with_joined_word text w) texts (word_keeps a w text k)

-- ---- other supports_of_wishes

-- a firing that was there, whose wishes are the same but for how they are held
pub record IsAsBefore (entries : List Entry) (x : Fresh) : Type 0 where
  pub before : Fresh
  pub there : IsIn before (all_fresh entries)
  pub firing : before.firing ≡ x.firing
  pub wishes : (y : SupportedWish) → IsIn y x.wishes → (z : SupportedWish) × IsIn z before.wishes × (z.wish ≡ y.wish)

-- entries with the same firings keep a wave lawful
pub entries_keep : (a : Agent) (w : Wave) (entries : List Entry) → map (λ (x : Fresh). x.firing) (all_fresh entries) ≡ map (λ (x : Fresh). x.firing) (all_fresh w.entries)
    → ((x : Fresh) → IsIn x (all_fresh entries) → IsAsBefore w.entries x) → IsLawfulWave a w → IsLawfulWave a (record w { entries = entries })
entries_keep a w entries same before k = record {
  founded = subst (λ fs. IsFounded w.names a.holding a.queues.input w.program.rules w.last_firing (firings_of_agent a ++ fs)) (sym same) k.founded;
  wishes = λ x i y j.
      let b = before x i in
      let z = b.wishes y j in subst (λ (f : FiringOf). IsIn y.wish f.made) b.firing (subst (λ u. IsIn u b.before.firing.made) z.2 (k.wishes b.before b.there z.0 z.1));
  counted = k.counted;
  later = λ x i. let b = before x i in subst (λ (f : FiringOf). a.counts.firings < f.number) b.firing (k.later b.before b.there);
  explains = λ x i.
      let b = before x i in
      subst (λ (f : FiringOf). (elements : List Element) × ((e : Element) → IsIn e elements → IsIn e a.holding.elements) × (f.used ≡ all_uses (reach_of a) a.holding.rows f.depth elements)) b.firing (k.explains b.before b.there);
  can = λ x i u j. let b = before x i in k.can b.before b.there u (subst (λ (f : FiringOf). IsIn u f.made) (sym b.firing) j);
}

later_entry : (e : Entry) (entries : List Entry) (x : Fresh) → IsAsBefore entries x → IsAsBefore (e ∷ entries) x
later_entry (noted l) entries x h = record { before = h.before; there = h.there; firing = h.firing; wishes = h.wishes }
later_entry (fired y) entries x h = record { before = h.before; there = inr h.there; firing = h.firing; wishes = h.wishes }

wish_same : (p : Wish → Bool) (wish_support : WishSupport) (y : SupportedWish) → (with_support_by p wish_support y).wish ≡ y.wish
wish_same p wish_support y = go (p y.wish)
  where
    go : (b : Bool) → (cond b (record y { wish_support = wish_support }) y).wish ≡ y.wish
    go true = refl
    go false = refl

-- a firing with other supports_of_wishes in front
refated : (p : Wish → Bool) (wish_support : WishSupport) (y : Fresh) (entries : List Entry) (x : Fresh) → record y { wishes = map (with_support_by p wish_support) y.wishes } ≡ x → IsAsBefore (fired y ∷ entries) x
refated p wish_support y entries x q =
    subst (IsAsBefore (fired y ∷ entries)) q
    (record { before = y; there = inl refl; firing = refl; wishes = λ u j. let z = in_map (with_support_by p wish_support) u y.wishes j in (z.0, z.1, sym (wish_same p wish_support z.0) ∙ ap (λ (v : SupportedWish). v.wish) z.2) })

as_it_was : (y : Fresh) (entries : List Entry) (x : Fresh) → y ≡ x → IsAsBefore (fired y ∷ entries) x
as_it_was y entries x q = subst (IsAsBefore (fired y ∷ entries)) q (record { before = y; there = inl refl; firing = refl; wishes = λ u j. (u, j, refl) })

module _ (number : ℕ) (p : Wish → Bool) (wish_support : WishSupport) (learning_event : LearningEvent) where
  abbrev changed : List Entry → List Entry
  changed entries = map (with_supports_by number p wish_support) entries ++ noted learning_event ∷ []

  pub firings_same : (entries : List Entry) → map (λ (x : Fresh). x.firing) (all_fresh (changed entries)) ≡ map (λ (x : Fresh). x.firing) (all_fresh entries)
  firings_same [] = refl
  firings_same (noted l ∷ entries) = firings_same entries
  firings_same (fired x ∷ entries) = go (x.firing.number == number) (firings_same entries)
    where
      go : (b : Bool) → map (λ (x : Fresh). x.firing) (all_fresh (changed entries)) ≡ map (λ (x : Fresh). x.firing) (all_fresh entries)
          → map (λ (x : Fresh). x.firing) (all_fresh (cond b (fired (record x { wishes = map (with_support_by p wish_support) x.wishes })) (fired x) ∷ changed entries)) ≡ x.firing ∷ map (λ (x : Fresh). x.firing) (all_fresh entries)
      go true q = ap (λ l. x.firing ∷ l) q
      go false q = ap (λ l. x.firing ∷ l) q

  pub each_before : (entries : List Entry) (x : Fresh) → IsIn x (all_fresh (changed entries)) → IsAsBefore entries x
  each_before [] x i = absurd i
  each_before (noted l ∷ entries) x i = later_entry (noted l) entries x (each_before entries x i)
  each_before (fired y ∷ entries) x i = go (y.firing.number == number) i (each_before entries x)
    where
      go : (b : Bool) → IsIn x (all_fresh (cond b (fired (record y { wishes = map (with_support_by p wish_support) y.wishes })) (fired y) ∷ changed entries)) → (IsIn x (all_fresh (changed entries)) → IsAsBefore entries x)
          → IsAsBefore (fired y ∷ entries) x
      go true (inl q) later = refated p wish_support y entries x q
      go true (inr j) later = later_entry (fired y) entries x (later j)
      go false (inl q) later = as_it_was y entries x q
      go false (inr j) later = later_entry (fired y) entries x (later j)

pub steps_without_rule_keep : StepsWithoutRuleKeep
steps_without_rule_keep a w l learning_event k =
    let n = entries_keep a w (changed l.explained.number l.takes_over by_instance learning_event w.entries) (firings_same l.explained.number l.takes_over by_instance learning_event w.entries)
    (each_before l.explained.number l.takes_over by_instance learning_event w.entries) k in
    record { founded = n.founded; wishes = n.wishes; counted = n.counted; later = n.later; explains = n.explains; can = n.can }

-- ---- doing without learning

module _ (m : BeforeWave) where
  pub firings_kept : (entries : List Entry) → map (λ (x : Fresh). x.firing) (all_fresh (map (results_by_instance m) entries)) ≡ map (λ (x : Fresh). x.firing) (all_fresh entries)
  firings_kept [] = refl
  firings_kept (noted l ∷ entries) = firings_kept entries
  firings_kept (fired x ∷ entries) = go (nat_lt 1 x.firing.depth) (firings_kept entries)
    where
      go : (b : Bool) → map (λ (x : Fresh). x.firing) (all_fresh (map (results_by_instance m) entries)) ≡ map (λ (x : Fresh). x.firing) (all_fresh entries)
          → map (λ (x : Fresh). x.firing) (all_fresh (cond b (fired (record x { wishes = map (with_support_by (is_result m.reach x.firing.depth) by_instance) x.wishes })) (fired x) ∷ map (results_by_instance m) entries))
          ≡ x.firing ∷ map (λ (x : Fresh). x.firing) (all_fresh entries)
      go true q = ap (λ l. x.firing ∷ l) q
      go false q = ap (λ l. x.firing ∷ l) q

  each_kept : (entries : List Entry) (x : Fresh) → IsIn x (all_fresh (map (results_by_instance m) entries)) → IsAsBefore entries x
  each_kept [] x i = absurd i
  each_kept (noted l ∷ entries) x i = later_entry (noted l) entries x (each_kept entries x i)
  each_kept (fired y ∷ entries) x i = go (nat_lt 1 y.firing.depth) i (each_kept entries x)
    where
      go : (b : Bool)
          → IsIn x (all_fresh (cond b (fired (record y { wishes = map (with_support_by (is_result m.reach y.firing.depth) by_instance) y.wishes })) (fired y) ∷ map (results_by_instance m) entries))
          → (IsIn x (all_fresh (map (results_by_instance m) entries)) → IsAsBefore entries x) → IsAsBefore (fired y ∷ entries) x
      go true (inl q) later = refated (is_result m.reach y.firing.depth) by_instance y entries x q
      go true (inr j) later = later_entry (fired y) entries x (later j)
      go false (inl q) later = as_it_was y entries x q
      go false (inr j) later = later_entry (fired y) entries x (later j)

pub doing_without_keeps : DoingWithoutKeeps
unfolding without_learning
doing_without_keeps a w h k =
    let n = entries_keep a w (map (results_by_instance (before_wave a)) w.entries) (firings_kept (before_wave a) w.entries) (each_kept (before_wave a) w.entries) k in
    record { founded = n.founded; wishes = n.wishes; counted = n.counted; later = n.later; explains = n.explains; can = n.can }
