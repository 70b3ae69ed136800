-- What a firing of a lawful wave teaches is a learning step.
use Rattle.std.proofs.Common.{◌≡◌, refl, sym, ◌∙◌, ap, subst, ℕ, ◌≤◌, ◌<◌, true, false, ◌&&◌, inl, inr, ◌⊎◌, arith, List, [], ◌∷◌, ◌++◌, length, map, flat_map, filter}
use Rattle.std.specs.List.{list_any}
use Rattle.soar_sym.specs.Letters.{last_of}
use Rattle.soar_sym.specs.Words.{Texts}
use Rattle.soar_sym.specs.declared.symbol.Sym.{Sym}
use Rattle.soar_sym.specs.declared.symbol.Sym.TheVariants.{Ident}
use Rattle.soar_wm.specs.declared.element.Element.{Element}
use Rattle.defs_soar.specs.declared.firing.Used.{Used}
use Rattle.defs_soar.specs.declared.preference.PrefKind.TheVariants as kind
use Rattle.defs_soar.specs.declared.preference.Preference.{Preference}
use Rattle.defs_soar.specs.declared.preference.Wish.{Wish}
use Rattle.defs_soar.specs.Agents.{Agent}
use Rattle.defs_soar.specs.ChainIdentifiers.{firings_of, is_made_by}
use Rattle.defs_soar.specs.Dependencies.{is_new_in, symbols_of_wish}
use Rattle.defs_soar.specs.Goals.{is_goal}
use Rattle.defs_soar.specs.History.{ChainOf, FiringOf}
use Rattle.defs_soar.specs.Laws.{IsIn}
use Rattle.defs_soar.specs.LearnedFirings.{ExplainedFiring}
use Rattle.defs_soar.specs.Outcome.{chunked}
use Rattle.defs_soar.specs.Results.{accepted_for, closure_of, hanging_on, is_result, result_row, results_of, rows_seen}
use Rattle.defs_soar.specs.Sorted.{has_symbol}
use Rattle.defs_soar.specs.LearnedRules.{names_joining, with_names, with_joined_word}
use Rattle.defs_soar.specs.Ungrounded.{symbols_of_element}
use Rattle.defs_soar.specs.Values.{is_kind}
use Rattle.defs_soar.specs.WaveAtHand.{all_fresh, Fresh, BeforeWave, Wave}
use Rattle.defs_soar.specs.WaveFirings.{before_wave}
use Rattle.learning_laws.specs.Lawful.{Grown, IsLawful}
use Rattle.learning_laws.specs.LawfulAgents.{firings_of_agent, IsLawfulAgent, IsNumbered}
use Rattle.learning_laws.specs.LawfulWaves.{ChunksOfWavesGoAgain, fresh_firings, IsLawfulWave, explained_in, WavesGiveLearningSteps}
use Rattle.learning_laws.specs.LearningSteps.{IsExplained, named_wave, outcome_at}
use Rattle.learning_laws.specs.BeforeWave.{CanBeMade, IsBeforeWave}
use Rattle.learning_laws.specs.Ready.{FlagsAgree, NegationsReady}
use Rattle.learning_laws.specs.Record.{IsLawfulRecord, used_elements}
use Rattle.learning_laws.proofs.ExplainLaws.{firing_explained, from_explained, ground_used}
use Rattle.learning_laws.proofs.FoundedLaws.{lawful_agents_are_settled, lawful_agents_have_records, tag_found}
use Rattle.learning_laws.proofs.ExplainedLaws.{all_lawful, are_roots, are_wishes, from_each_triple, explained_are_lawful}
use Rattle.learning_laws.proofs.LearningStepLaws.{chunks_are_learned}
use Rattle.learning_laws.proofs.Lists.{any_some, both_true, filter_within, in_append, in_flat_map, in_flat_mapped, in_left, in_map, in_mapped, in_right}
use Rattle.learning_laws.proofs.NameLaws.{all_grown, names_join}
use Rattle.learning_laws.proofs.ReplayLaws.{found_within}
use Rattle.learning_laws.proofs.RuleLaws.{firings_stand}
use Rattle.learning_laws.proofs.SettleLaws.{goal_there}
use Rattle.learning_laws.proofs.TableGrowth.{grown_twice}

letters_named : (texts : Texts) (w : Wave) → (with_names texts w).names.letters ≡ w.names.letters
letters_named [] w = refl
letters_named (t ∷ texts) w = letters_named texts (with_joined_word t w)

-- a result is one of the firing's own wishes, or an acceptable row
from_results : (m : BeforeWave) (order : Texts) (f : FiringOf) (x : Preference) → IsIn x (results_of order m.reach m.rows f) → (IsIn x m.rows × (is_kind x.wish.kind kind.Accept ≡ true)) ⊎ ((w : Wish) × IsIn w f.made × (result_row f w ≡ x))
unfolding results_of
from_results m order f x i =
    elim (in_append x (map (result_row f) (filter (is_result m.reach f.depth) f.made)) (closure_of order m.reach m.rows f) i) [
      | inl j ↦ let own = in_map (result_row f) x (filter (is_result m.reach f.depth) f.made) j in inr (own.0, (filter_within (is_result m.reach f.depth) f.made own.0 own.1).0, own.2)
      | inr j ↦
          let seen = rows_seen m.rows f in
          let ids = hanging_on m.reach f seen (filter (is_result m.reach f.depth) f.made) in
          let among = filter_within (λ row. is_kind row.wish.kind kind.Accept && has_symbol ids row.wish.id) seen x (from_each_triple order (accepted_for seen ids) x j) in
          elim (in_append x m.rows (map (result_row f) f.made) among.0) [
            | inl k ↦ inl (k, (both_true (is_kind x.wish.kind kind.Accept) (has_symbol ids x.wish.id) among.1).0)
            | inr k ↦ let own = in_map (result_row f) x f.made k in inr (own.0, own.1, own.2)
          ]
    ]

module _ (a : Agent) (w : Wave) (x : Fresh) (h : IsLawfulAgent a) (k : IsLawfulWave a w) (i : IsIn x (all_fresh w.entries)) where
  abbrev m : BeforeWave
  m = before_wave a

  abbrev f : FiringOf
  f = x.firing

  abbrev all : List FiringOf
  all = firings_of_agent a ++ fresh_firings w

  abbrev elements : List Element
  elements = (k.explains x i).0

  pub mine : IsIn f all
  mine = in_right f (firings_of_agent a) (fresh_firings w) (in_mapped (λ (y : Fresh). y.firing) x (all_fresh w.entries) i)

  -- the firings that explain it
  abbrev past : List FiringOf
  past = firings_of_agent a ++ f ∷ []

  pub past_in : (g : FiringOf) → IsIn g past → IsIn g all
  past_in g j = elim (in_append g (firings_of_agent a) (f ∷ []) j) [ inl l ↦ in_left g (firings_of_agent a) (fresh_firings w) l | inr l ↦ elim l [ inl e ↦ subst (λ y. IsIn y all) e mine | inr z ↦ absurd z ] ]

  used_ever : (e : Element) → IsIn e (used_elements past) → IsIn e k.founded.elements.ever
  used_ever e j =
      let g = in_flat_map (λ (y : FiringOf). map (λ (u : Used). u.element) y.used) e past j in
      k.founded.elements.used e (in_flat_mapped (λ (y : FiringOf). map (λ (u : Used). u.element) y.used) g.0 e all (past_in g.0 g.1) g.2)

  explained : IsExplained m w.names.words f elements
  explained =
      let r = lawful_agents_have_records a h in
      let s = lawful_agents_are_settled a h in
      record {
        history = record {
          each = λ g j. k.founded.history.each g (in_left g (firings_of_agent a) (fresh_firings w) j);
          numbers = r.numbers;
          uses = r.uses;
          tags = r.tags;
          now = r.now;
          ids = r.ids;
        };
        settled = record {
          rows = s.rows;
          held = s.held;
          marks = s.marks;
          flags = s.flags;
          selections = s.selections;
          numbers = λ g j. let low : g.number ≤ a.counts.firings = h.founded.history.last_is g j in let high : a.counts.firings < f.number = k.later x i in omega arith;
        };
        lawful = k.founded.history.each f mine;
        within = (k.explains x i).1;
        used = (k.explains x i).2;
        tags = λ e g j l q. k.founded.elements.tags e g (used_ever e j) (used_ever g l) q;
        now = λ e g j q. k.founded.elements.tags g e (k.founded.elements.present g (found_within e.tag a.holding.elements g q)) (used_ever e j) (tag_found e.tag a.holding.elements g q);
        ids = λ e j. k.founded.elements.ids e (used_ever e j);
      }

  abbrev rows : List Preference
  rows = results_of w.names.words m.reach m.rows f

  abbrev l : ExplainedFiring
  l = explained_in a w f

  abbrev c : ChainOf
  c = l.chain

  pub c_lawful : IsLawful w.names.words c a.holding.elements
  c_lawful = explained_are_lawful m w.names.words w.names.words f elements explained

  record_lawful : IsLawfulRecord w.names.words past m.elements
  record_lawful = all_lawful m w.names.words w.names.words f elements explained

  pub firing_past : (g : FiringOf) → IsIn g (firings_of c) → IsIn g past
  firing_past g j =
      (from_explained w.names.words past m.elements record_lawful (f.number ∷ map (λ row. row.firing) rows) (are_roots m w.names.words w.names.words f elements explained) g
      (firing_explained w.names.words past m.elements record_lawful (f.number ∷ map (λ row. row.firing) rows) (are_roots m w.names.words w.names.words f elements explained) (map (λ row. row.wish) rows)
      (are_wishes m w.names.words w.names.words f elements explained) g j)).0

  pub ground_ever : (e : Element) → IsIn e c.grounds → IsIn e k.founded.elements.ever
  ground_ever e j =
      used_ever e
      (ground_used w.names.words past m.elements record_lawful (f.number ∷ map (λ row. row.firing) rows) (are_roots m w.names.words w.names.words f elements explained) (map (λ row. row.wish) rows)
      (are_wishes m w.names.words w.names.words f elements explained) e j)

  pub grown : Grown w.names.words (named_wave l w).names.words
  grown = all_grown (names_joining w.names.words l.chain l.explained.depth) w

  pub letters_are : w.names.letters ≡ (named_wave l w).names.letters
  letters_are = sym (letters_named (names_joining w.names.words l.chain l.explained.depth) w)

  pub lawful_named : IsLawful (named_wave l w).names.words c a.holding.elements
  lawful_named = record {
    firings = λ g j. let o = c_lawful.firings g j in record { passes = o.passes; makes = λ later more. o.makes later (grown_twice w.names.words (named_wave l w).names.words later grown more) };
    steps = c_lawful.steps;
    results = c_lawful.results;
    tags = c_lawful.tags;
    ids = c_lawful.ids;
  }

  pub result_can : (u : Wish) → IsIn u c.results → CanBeMade a.holding.goals u
  result_can u j =
      let row = in_map (λ (r : Preference). r.wish) u rows j in
      elim (from_results m w.names.words f row.0 row.1) [
        | inl y ↦ subst (CanBeMade a.holding.goals) row.2 (h.founded.accepted row.0 y.0 y.1)
        | inr y ↦ subst (CanBeMade a.holding.goals) (ap (λ (r : Preference). r.wish) y.2 ∙ row.2) (k.can x i y.0 y.1)
      ]

  pub goal_numbered : (n number : ℕ) → is_goal a.holding.goals (Ident n number) ≡ true → number ≤ last_of w.names.letters n
  goal_numbered n number q = let g = goal_there a.holding.goals (Ident n number) q in subst (IsNumbered w.names.letters) g.2 (k.founded.symbols.goals g.0 g.1).1.1

  result_capital : (n number : ℕ) → IsIn (Ident n number) (flat_map symbols_of_wish c.results) → (65 ≤ n) × (n ≤ 90)
  result_capital n number j =
      let u = in_flat_map symbols_of_wish (Ident n number) c.results j in
      let by = c_lawful.results u.0 u.1 in
      (k.founded.symbols.made by.0 (past_in by.0 (firing_past by.0 by.1)) (Ident n number) (in_flat_mapped symbols_of_wish u.0 (Ident n number) by.0.made by.2 u.2)).0

  pub no_goal : (s : Sym) → is_made_by c s ≡ true → is_goal a.holding.goals s ≡ false
  no_goal s q =
      let new = any_some (λ g. is_new_in g s) (firings_of c) (both_true (list_any (λ g. is_new_in g s) (firings_of c)) _ q).0 in
      k.founded.history.new new.0 s (past_in new.0 (firing_past new.0 new.1)) new.2

  pub moment : outcome_at m l w ≡ chunked → IsBeforeWave (named_wave l w).names.words (named_wave l w).names.letters a.holding.goals c l.explained.depth
  moment q = record {
    long = ap (λ (y : List ℕ). length y) (sym letters_are) ∙ k.founded.symbols.letters;
    given = λ n number j.
        let e = in_flat_map symbols_of_element (Ident n number) c.grounds j in
        subst (λ y. number ≤ last_of y n) letters_are (k.founded.elements.given e.0 (ground_ever e.0 e.1) (Ident n number) e.2).1;
    goals_given = λ n number j. subst (λ y. number ≤ last_of y n) letters_are (goal_numbered n number j);
    capital = result_capital;
    no_goal = no_goal;
    results = result_can;
    names = names_join m l w
        (λ e j. let g = k.founded.elements.given e (ground_ever e j) in ((g e.id (inl refl)).0, (g e.attr (inr (inl refl))).0, (g e.value (inr (inr (inl refl)))).0)) q;
  }

  pub flags : FlagsAgree a.holding.elements
  flags e g y z q = h.held_up.flags e y ∙ ap (is_goal a.holding.goals) q ∙ sym (h.held_up.flags g z)

  pub negations : NegationsReady c
  negations = firings_stand w.names.words c (λ g j. (c_lawful.firings g j, k.founded.history.stand g (past_in g (firing_past g j))))

pub waves_give_learning_steps : WavesGiveLearningSteps
waves_give_learning_steps a w x h k i q =
    record { lawful = lawful_named a w x h k i; moment = moment a w x h k i q; negations = negations a w x h k i; flags = flags a w x h k i }

pub chunks_of_waves : ChunksOfWavesGoAgain
chunks_of_waves a w x h k i q off = chunks_are_learned (before_wave a) (explained_in a w x.firing) w (waves_give_learning_steps a w x h k i q) off q
