-- What a lawful wave of a lawful agent gives to what is asked of the explanation of one of its firings.
use Rattle.std.proofs.Common.{◌≡◌, refl, sym, ap, subst, ℕ, ◌≤◌, ◌<◌, ◌==◌, Bool, true, false, ◌&&◌, cond, inl, inr, ◌⊎◌, arith, List, [], ◌∷◌, ◌++◌, length, map, flat_map, filter, Option, Some, None}
use Rattle.soar_sym.specs.Words.{IsKnown, Texts}
use Rattle.soar_sym.specs.declared.symbol.Sym.{Sym}
use Rattle.soar_rule.specs.Symbols.{AreKnown, constants_of}
use Rattle.soar_wm.specs.declared.element.Element.{Element}
use Rattle.defs_match.specs.Conflict.{instances_of}
use Rattle.chunk_back.specs.Makers.{MakersAreEarlier}
use Rattle.chunk_learn.specs.Candidates.{depth_of_last}
use Rattle.explained_firings.specs.Reached.{AreRowsKnown, AreWishesKnown}
use Rattle.condition_order.specs.Orders.{AreElementsKnown}
use Rattle.defs_soar.specs.declared.firing.How.{How}
use Rattle.defs_soar.specs.declared.firing.How.TheVariants as how
use Rattle.defs_soar.specs.declared.firing.Used.{Used}
use Rattle.defs_soar.specs.declared.goal.Goal.{Goal}
use Rattle.defs_soar.specs.declared.learning.Cause.{Cause}
use Rattle.defs_soar.specs.declared.learning.Learning.{Learning}
use Rattle.defs_soar.specs.declared.preference.PrefKind.TheVariants as kind
use Rattle.defs_soar.specs.declared.preference.Preference.{Preference}
use Rattle.defs_soar.specs.declared.preference.Wish.{Wish}
use Rattle.defs_soar.specs.Agents.{Agent}
use Rattle.defs_soar.specs.Candidate.{all_grounds, general_form, literal_form, named_form}
use Rattle.defs_soar.specs.CandidateOf.{learned_by}
use Rattle.defs_soar.specs.ChainIdentifiers.{firings_of}
use Rattle.defs_soar.specs.ConditionOrder.{Ordered, ordered_grounds}
use Rattle.defs_soar.specs.Dependencies.{symbols_of_wish}
use Rattle.defs_soar.specs.Explanation.{firing_of, maker_named}
use Rattle.defs_soar.specs.Goals.{goal_ids}
use Rattle.defs_soar.specs.History.{ChainOf, FiringOf}
use Rattle.defs_soar.specs.Laws.{IsIn}
use Rattle.defs_soar.specs.LearnedFirings.{ExplainedFiring}
use Rattle.defs_soar.specs.LearnedRules.{as_learning, identifiers_of}
use Rattle.defs_soar.specs.Outcome.{Outcome, blocked, chunked, groundless, justified, lost, outcome_of, reused, unless_lost}
use Rattle.defs_soar.specs.Results.{accepted_for, closure_of, hanging_on, is_result, result_row, results_of, rows_seen}
use Rattle.defs_soar.specs.Sorted.{has_symbol}
use Rattle.defs_soar.specs.Stale.{tag_lost}
use Rattle.defs_soar.specs.Ungrounded.{symbols_of_element}
use Rattle.defs_soar.specs.Values.{is_kind}
use Rattle.defs_soar.specs.WaveAtHand.{BeforeWave, Fresh, Wave, all_fresh}
use Rattle.defs_soar.specs.WaveFirings.{before_wave}
use Rattle.explained_firings.specs.Explaining.{CanBeExplained}
use Rattle.firing_records.specs.Recorded.{Standing}
use Rattle.learned_firings.specs.Deciding.{AreThere}
use Rattle.learning_laws.specs.LawfulAgents.{IsLawfulAgent, firings_of_agent}
use Rattle.learning_laws.specs.LawfulWaves.{IsLawfulWave, explained_in, fresh_firings}
use Rattle.learning_laws.specs.Laws.{chunk_of, instance_at_grounds}
use Rattle.learning_laws.specs.LearningSteps.{named_wave, outcome_at}
use Rattle.learning_laws.specs.Record.{UseIsLawful}
use Rattle.learning_laws.proofs.Chunked.{is_chunked}
use Rattle.learning_laws.proofs.ConflictLaws.{chunks_match}
use Rattle.learning_laws.proofs.ExplainedLaws.{from_each_triple}
use Rattle.learning_laws.proofs.JustificationJoins.{ground_known, holds, results_given, tell}
use Rattle.learning_laws.proofs.Lists.{filter_within, in_append, in_flat_map, in_flat_mapped, in_left, in_map, in_mapped, in_right, same_number}
use Rattle.learning_laws.proofs.OrderLaws.{is_order_of}
use Rattle.learning_laws.proofs.ReplayLaws.{found_within, is_there_still}
use Rattle.learning_laws.proofs.WaveLearning.{c_lawful, firing_past, lawful_named, mine, past_in}
use Rattle.wave_learning.specs.Lawful.{AllIn, ArePartsKnown, IsMatched, MatchesAs}
use Rattle.wave_learning.proofs.ChainLemmas.{ends_with_it}
use Rattle.wave_learning.proofs.MatchLemmas.{instance_bound, literal_binds_none}

-- ---- lists of symbols

pub are_known : (words : Texts) (symbols : List Sym) → AllIn words symbols → AreKnown words symbols
are_known words [] h = tt
are_known words (s ∷ symbols) h = (h s (inl refl), are_known words symbols (λ t i. h t (inr i)))

rows_known : (words : Texts) (rows : List Preference) → ((row : Preference) → IsIn row rows → AllIn words (symbols_of_wish row.wish)) → AreRowsKnown words rows
rows_known words [] h = tt
rows_known words (row ∷ rows) h = (are_known words (symbols_of_wish row.wish) (h row (inl refl)), rows_known words rows (λ x i. h x (inr i)))

wishes_known : (words : Texts) (wishes : List Wish) → AllIn words (flat_map symbols_of_wish wishes) → AreWishesKnown words wishes
wishes_known words [] h = tt
wishes_known words (w ∷ wishes) h = (
  are_known words (symbols_of_wish w) (λ s i. h s (in_left s (symbols_of_wish w) (flat_map symbols_of_wish wishes) i)),
  wishes_known words wishes (λ s i. h s (in_right s (symbols_of_wish w) (flat_map symbols_of_wish wishes) i)),
)

pub elements_known : (words : Texts) (elements : List Element) → AllIn words (flat_map symbols_of_element elements) → AreElementsKnown words elements
elements_known words [] h = tt
elements_known words (e ∷ elements) h =
    let here = λ (s : Sym) (i : IsIn s (symbols_of_element e)). h s (in_left s (symbols_of_element e) (flat_map symbols_of_element elements) i) in (
      (here e.id (inl refl), here e.attr (inr (inl refl)), here e.value (inr (inr (inl refl)))),
      elements_known words elements (λ s i. h s (in_right s (symbols_of_element e) (flat_map symbols_of_element elements) i)),
    )

none_of : (n : ℕ) (past : List FiringOf) → ((f : FiringOf) → IsIn f past → f.number < n) → firing_of past n ≡ []
none_of n [] low = refl
none_of n (f ∷ past) low = go (f.number == n) refl (none_of n past (λ g i. low g (inr i)))
  where
    go : (b : Bool) → (f.number == n) ≡ b → firing_of past n ≡ [] → cond b (f ∷ firing_of past n) (firing_of past n) ≡ []
    go true q later = let less : f.number < n = low f (inl refl) in let e : f.number ≡ n = same_number f.number n q in absurd (omega arith)
    go false q later = later

-- a result is one of the firing's own wishes, or a row that was there
from_results : (m : BeforeWave) (order : Texts) (f : FiringOf) (x : Preference) → IsIn x (results_of order m.reach m.rows f) → IsIn x m.rows ⊎ ((w : Wish) × IsIn w f.made × (result_row f w ≡ x))
unfolding results_of
from_results m order f x i =
    elim (in_append x (map (result_row f) (filter (is_result m.reach f.depth) f.made)) (closure_of order m.reach m.rows f) i) [
      | inl j ↦ (let own = in_map (result_row f) x (filter (is_result m.reach f.depth) f.made) j in inr (own.0, (filter_within (is_result m.reach f.depth) f.made own.0 own.1).0, own.2))
      | inr j ↦ (
          let seen = rows_seen m.rows f in
          let ids = hanging_on m.reach f seen (filter (is_result m.reach f.depth) f.made) in
          let among = filter_within (λ row. is_kind row.wish.kind kind.Accept && has_symbol ids row.wish.id) seen x (from_each_triple order (accepted_for seen ids) x j) in
          elim (in_append x m.rows (map (result_row f) f.made) among.0) [ inl k ↦ inl k | inr k ↦ (let own = in_map (result_row f) x f.made k in inr (own.0, own.1, own.2)) ])
    ]

-- ---- the goals

module _ (a : Agent) (w : Wave) (h : IsLawfulAgent a) (k : IsLawfulWave a w) where
  pub goals_known : AreKnown w.names.words (goal_ids a.holding.goals)
  goals_known = are_known w.names.words (goal_ids a.holding.goals) (λ s i. let g = in_map (λ (g : Goal). g.id) s a.holding.goals i in subst (IsKnown w.names.words) g.2 (k.founded.symbols.goals g.0 g.1).1.0)

-- ---- one firing

module _ (a : Agent) (w : Wave) (x : Fresh) (h : IsLawfulAgent a) (k : IsLawfulWave a w) (i : IsIn x (all_fresh w.entries)) where
  abbrev m : BeforeWave
  m = before_wave a

  abbrev f : FiringOf
  f = x.firing

  abbrev past : List FiringOf
  past = firings_of_agent a

  abbrev all : List FiringOf
  all = firings_of_agent a ++ fresh_firings w

  abbrev l : ExplainedFiring
  l = explained_in a w f

  abbrev c : ChainOf
  c = l.chain

  before_it : (g : FiringOf) → IsIn g past → g.number < f.number
  before_it g j = let low : g.number ≤ a.counts.firings = h.founded.history.last_is g j in let high : a.counts.firings < f.number = k.later x i in omega arith

  pub new_number : firing_of past f.number ≡ []
  new_number = none_of f.number past before_it

  pub earlier : MakersAreEarlier (past ++ f ∷ [])
  earlier g j n y =
      let u = in_flat_map maker_named n g.used y in
      by u.0.how u.2 (k.founded.history.uses g (past_in a w x h k i g j) u.0 u.1)
    where
      by : (way : How) → IsIn n (maker_named (record { element = (in_flat_map maker_named n g.used y).0.element; how = way })) → UseIsLawful all g (record { element = (in_flat_map maker_named n g.used y).0.element; how = way }) → n < g.number
      by how.Upper z v = absurd z
      by how.Architecture z v = absurd z
      by (how.Item tag) z v = absurd z
      by (how.Selected tag) z v = absurd z
      by (how.Made number) (inl q) v = subst (λ (o : ℕ). o < g.number) q v.earlier
      by (how.Made number) (inr z) v = absurd z

  made_known : (g : FiringOf) → IsIn g all → AllIn w.names.words (flat_map symbols_of_wish g.made)
  made_known g j s y = (k.founded.symbols.made g j s y).0

  pub can_be_explained : (s : Standing) → a.holding.rows ≡ s.rows → CanBeExplained w.names.words s past f
  can_be_explained s rows = record {
    rows_known = subst (AreRowsKnown w.names.words) rows
        (rows_known w.names.words a.holding.rows
        (λ row j t y. let by = k.founded.rows row j in made_known by.0 by.1 t (in_flat_mapped symbols_of_wish row.wish t by.0.made by.3 y)));
    made_known = wishes_known w.names.words f.made (made_known f (mine a w x h k i));
    new = new_number;
    earlier = earlier;
  }

  -- ---- its explanation

  abbrev results : List Preference
  results = results_of w.names.words m.reach m.rows f

  pub ends : depth_of_last 0 (firings_of c) ≡ f.depth
  ends =
      ends_with_it past f new_number earlier (f.number ∷ map (λ (row : Preference). row.firing) results) (map (λ (row : Preference). row.wish) results)
      (λ n j. elim j [
        | inl q ↦ (let same : f.number ≡ n = q in omega arith)
        | inr j ↦ (
            let row = in_map (λ (row : Preference). row.firing) n results j in
            elim (from_results m w.names.words f row.0 row.1) [
              | inl y ↦ (
                  let by = h.founded.rows row.0 y in
                  let less : by.0.number < f.number = before_it by.0 by.1 in
                  let same : by.0.number ≡ row.0.firing = by.2 in
                  let is : row.0.firing ≡ n = row.2 in omega arith)
              | inr y ↦ (
                  let own : f.number ≡ row.0.firing = ap (λ (r : Preference). r.firing) y.2 in
                  let is : row.0.firing ≡ n = row.2 in omega arith)
            ])
      ])
      (inl refl)

  pub parts_known : ArePartsKnown w.names.words c
  parts_known = record {
    grounds = λ s j. let e = in_flat_map symbols_of_element s c.grounds j in ground_known a w x h k i e.0 e.1 s e.2;
    firings = λ g j s y.
        let there = past_in a w x h k i g (firing_past a w x h k i g j) in
        let hold = holds a w x h k i g j in
        elim (in_append s (flat_map (λ (u : Used). symbols_of_element u.element) g.used) (flat_map symbols_of_wish g.made ++ (g.instance.binds ++ constants_of g.rule.production)) y) [
          | inl z ↦ (let u = in_flat_map (λ (u : Used). symbols_of_element u.element) s g.used z in hold.used u.0.element (in_mapped (λ (u : Used). u.element) u.0 g.used u.1) s u.2)
          | inr z ↦ elim (in_append s (flat_map symbols_of_wish g.made) (g.instance.binds ++ constants_of g.rule.production) z) [
            | inl v ↦ made_known g there s v
            | inr v ↦ hold.own s v
          ]
        ];
    results = λ s j. (results_given a w x h k i s j).0;
  }

  -- ---- the rule that is learned matches at its grounds

  abbrev words : Texts
  words = (named_wave l w).names.words

  abbrev settings : Learning
  settings = as_learning a.settings (named_wave l w).learned

  abbrev outcome : Outcome
  outcome = outcome_at m l w

  grounds_there : tag_lost a.holding.elements c.grounds ≡ None → (e : Element) → IsIn e c.grounds → IsIn e a.holding.elements
  grounds_there kept e j =
      let found = is_there_still a.holding.elements c.grounds e kept j in
      subst (λ y. IsIn y a.holding.elements) ((c_lawful a w x h k i).tags e found.0 j found.1) (found_within e.tag a.holding.elements found.0 found.1)

  there : tag_lost a.holding.elements c.grounds ≡ None → (elements : List Element) → ((e : Element) → IsIn e elements → IsIn e c.grounds) → AreThere elements a.holding.elements
  there kept elements within = record {
    within = λ e j. grounds_there kept e (within e j);
    tags = λ e g j y q. k.founded.elements.tags e g (k.founded.elements.present e j) (k.founded.elements.present g y) q;
  }

  abbrev order : Ordered
  order = ordered_grounds words c.grounds

  taken_in : tag_lost a.holding.elements c.grounds ≡ None → (e : Element) → IsIn e order.taken → IsIn e c.grounds
  taken_in kept e j = (is_order_of words c.grounds (tell a w x h k i (grounds_there kept))).taken e j

  all_in : tag_lost a.holding.elements c.grounds ≡ None → (e : Element) → IsIn e (all_grounds order) → IsIn e c.grounds
  all_in kept e j =
      let o = is_order_of words c.grounds (tell a w x h k i (grounds_there kept)) in
      elim (in_append e order.taken order.left j) [ inl y ↦ o.taken e y | inr y ↦ o.left e y ]

  not_lost : (why : Cause) → outcome ≡ justified why → tag_lost a.holding.elements c.grounds ≡ None
  unfolding outcome_of
  not_lost why q = go (tag_lost a.holding.elements c.grounds) q
    where
      go : (o : Option ℕ) → unless_lost words c l.explained.depth (named_wave l w).program.rules a.holding.elements settings o ≡ justified why → o ≡ None
      go None r = refl
      go (Some t) r = absurd (cc)

  chunk_matches : (s : Standing) → a.holding.elements ≡ s.elements → outcome ≡ chunked → IsMatched s (named_form words (general_form words c l.explained.depth)) order.taken (identifiers_of order.taken)
  chunk_matches s elements q =
      let kept = (is_chunked words c l.explained.depth (named_wave l w).program.rules a.holding.elements settings q).there in
      let name : Sym = (named_form words (general_form words c l.explained.depth)).name in
      let rule = chunk_of words c l.explained.depth name 0 in
      let matched = chunks_match words c l.explained.depth 0 name (named_wave l w).program.rules a.holding.elements settings (lawful_named a w x h k i) q in
      let here = elim (in_append (instance_at_grounds words c 0) (instances_of a.holding.elements rule) [] matched) as (λ y. IsIn (instance_at_grounds words c 0) (instances_of a.holding.elements rule)) [ inl y ↦ y | inr y ↦ absurd y ] in
      record {
        bound = instance_bound rule a.holding.elements (instance_at_grounds words c 0) here;
        there = subst (AreThere order.taken) elements (there kept order.taken (taken_in kept));
      }

  justification_matches : (s : Standing) → a.holding.elements ≡ s.elements → (why : Cause) → outcome ≡ justified why → IsMatched s (named_form words (literal_form words c l.explained.depth)) (all_grounds order) []
  justification_matches s elements why q =
      let kept = not_lost why q in
      record {
        bound = sym (ap length (literal_binds_none words c l.explained.depth));
        there = subst (AreThere (all_grounds order)) elements (there kept (all_grounds order) (all_in kept));
      }

  pub matches : (s : Standing) → a.holding.elements ≡ s.elements → MatchesAs s words c (learned_by words c l.explained.depth outcome)
  matches s elements = go outcome refl
    where
      go : (o : Outcome) → outcome ≡ o → MatchesAs s words c (learned_by words c l.explained.depth o)
      go chunked q = chunk_matches s elements q
      go (justified why) q = justification_matches s elements why q
      go groundless q = tt
      go (reused name) q = tt
      go (lost tag) q = tt
      go (blocked b) q = tt
