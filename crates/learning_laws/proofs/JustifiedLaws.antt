-- The firing of a justification is recorded lawfully: its rule passes on its grounds, and makes the results as they are.
use Rattle.std.proofs.Common.{◌≡◌, refl, sym, ◌∙◌, ap, subst, ℕ, suc, ◌+◌, ◌≤◌, Bool, true, false, ◌&&◌, ◌||◌, ◌==◌, nat_lt, cond, inl, inr, arith, List, [], ◌∷◌, ◌++◌, length, map, flat_map, Option, Some, None, Ok, Result, option_and_then, append_assoc}
use Rattle.std.proofs.lemmas.List.{append-nil}
use Rattle.std.specs.Prelude.{not}
use Rattle.soar_sym.specs.Equality.{mark_eq}
use Rattle.soar_sym.specs.Letters.{last_of}
use Rattle.soar_sym.specs.Words.{Texts}
use Rattle.soar_sym.specs.declared.symbol.Sym.{Sym}
use Rattle.soar_sym.specs.declared.symbol.Sym.TheVariants.{Ident, Word, Int}
use Rattle.soar_rule.specs.declared.cond.Atom.{Atom}
use Rattle.soar_rule.specs.declared.cond.Atom.TheVariants.{Const}
use Rattle.soar_rule.specs.declared.cond.Test.TheVariants.{Plain}
use Rattle.soar_rule.specs.Conditions.{Condition, positive, negated, conjunctive, all_of}
use Rattle.soar_rule.specs.Productions.{atom_value}
use Rattle.soar_rule.specs.Renaming.{action_with, conditions_with, preference_with, test_with}
use Rattle.soar_rule.specs.Variables.{bound_variables}
use Rattle.soar_wm.specs.declared.element.Element.{Element}
use Rattle.defs_match.specs.Conflict.{bindings_of, paired}
use Rattle.defs_match.specs.Rules.{RuleOf}
use Rattle.defs_match.specs.Testing.{after_plain, others_pass, passes, stands}
use Rattle.defs_soar.specs.declared.firing.DropCause.{DropCause}
use Rattle.defs_soar.specs.declared.firing.Used.{Used}
use Rattle.defs_soar.specs.declared.goal.Goal.{Goal}
use Rattle.defs_soar.specs.declared.preference.PrefKind.{PrefKind}
use Rattle.defs_soar.specs.declared.preference.PrefKind.TheVariants as kind
use Rattle.defs_soar.specs.declared.preference.Wish.{Wish}
use Rattle.defs_soar.specs.Candidate.{action_of, all_grounds, conditions_from, literal_form, preference_of, with_variables}
use Rattle.defs_soar.specs.CarriedTests.{Carried, carried_tests, occurrence, occurrence_from, Placed, placed_at, placed_by, placed_tests}
use Rattle.defs_soar.specs.ConditionOrder.{ordered_grounds}
use Rattle.defs_soar.specs.Dependencies.{is_new_in}
use Rattle.defs_soar.specs.Firing.{evaluated_referent, judged, kind_of, MadeSoFar, referent_of, with_action, with_actions, with_wish}
use Rattle.defs_soar.specs.Goals.{is_goal}
use Rattle.defs_soar.specs.History.{FiringOf, ChainOf}
use Rattle.defs_soar.specs.Laws.{IsIn}
use Rattle.defs_soar.specs.LearnedFirings.{learned_firing, ExplainedFiring}
use Rattle.defs_soar.specs.Naming.{Naming}
use Rattle.defs_soar.specs.Negations.{negations_taken_over}
use Rattle.defs_soar.specs.Variablized.{Variablized}
use Rattle.defs_soar.specs.Support.{match_depth}
use Rattle.defs_soar.specs.Uses.{all_uses, elements_matched}
use Rattle.defs_soar.specs.Values.{is_identifier}
use Rattle.defs_soar.specs.WaveAtHand.{BeforeWave}
use Rattle.learning_laws.specs.Lawful.{IsLawful}
use Rattle.learning_laws.specs.LearningSteps.{justification_of, JustificationFiringsAreLawful, TagsTellUses}
use Rattle.learning_laws.specs.BeforeWave.{CanBeMade, RefFits}
use Rattle.learning_laws.specs.Replay.{if_taken, made_again, passed_on}
use Rattle.learning_laws.proofs.CarriedStand.{AllStand, carried_stand, Stands}
use Rattle.learning_laws.proofs.ConflictLaws.{IsNegation, taken_over_negations}
use Rattle.learning_laws.proofs.FieldLaws.{as_test}
use Rattle.learning_laws.proofs.FiringLaws.{alike_as_is, recorded_alike}
use Rattle.learning_laws.proofs.InstanceLaws.{each_used, matched_again}
use Rattle.learning_laws.proofs.Lists.{and_true, filter_within, in_append, in_flat_map, same_itself, same_mark, same_number}
use Rattle.learning_laws.proofs.MakeLaws.{wished_is}
use Rattle.learning_laws.proofs.MatchLaws.{tests_here}
use Rattle.learning_laws.proofs.OrderLaws.{IsOrderOf, is_order_of, TagsTell}
use Rattle.learning_laws.proofs.PlacedLaws.{IsAt, Occurs, occurs, once_among, one_symbol, stands_back, symbols_of}

-- ---- carried tests hold where they are put

record StandsAt (all : List Sym) (p : Placed) : Type 0 where
  symbol : Sym
  here : IsAt all p.at symbol
  stands : stands p.relation symbol p.right ≡ true

abbrev At : List Sym → Sym → Option ℕ → Type 0
At all s None = Unit {0}
At all s (Some n) = IsAt all n s

at_occurrence : (elements : List Element) (s : Sym) → At (symbols_of elements) s (occurrence elements s)
at_occurrence elements s = go (is_identifier s)
  where
    of : (o : Option ℕ) → Occurs 0 (symbols_of elements) s o → At (symbols_of elements) s o
    of None k = tt
    of (Some n) k = subst (λ m. IsAt (symbols_of elements) m s) (same n k.0 k.1) k.2
      where
        same : (n k : ℕ) → n ≡ 0 + k → k ≡ n
        same n k q = omega arith

    go : (b : Bool) → At (symbols_of elements) s (cond b (occurrence_from 0 elements s) None)
    go true = of (occurrence_from 0 elements s) (occurs 0 elements s)
    go false = tt

placed_stand : (all : List Sym) (t : Carried) → Stands t → (a b : Option ℕ) → At all t.field a → At all t.referent b → (p : Placed) → IsIn p (placed_by t a b) → StandsAt all p
placed_stand all t s None None f g p i = absurd i
placed_stand all t s (Some n) None f g p (inl e) = subst (StandsAt all) e (record { symbol = t.field; here = f; stands = s.stands })
placed_stand all t s (Some n) None f g p (inr i) = absurd i
placed_stand all t s None (Some m) f g p (inl e) = subst (StandsAt all) e (record { symbol = t.referent; here = g; stands = stands_back t.relation t.field t.referent s.of_symbols s.stands })
placed_stand all t s None (Some m) f g p (inr i) = absurd i
placed_stand all t s (Some n) (Some m) f g p i = go (nat_lt n m) i
  where
    go : (b : Bool) → IsIn p (cond b (placed_at m t.relation t.field ∷ []) (placed_at n t.relation t.referent ∷ [])) → StandsAt all p
    go true (inl e) = subst (StandsAt all) e (record { symbol = t.referent; here = g; stands = stands_back t.relation t.field t.referent s.of_symbols s.stands })
    go true (inr j) = absurd j
    go false (inl e) = subst (StandsAt all) e (record { symbol = t.field; here = f; stands = s.stands })
    go false (inr j) = absurd j

each_stands : (elements : List Element) (tests : List Carried) → AllStand tests → (p : Placed) → IsIn p (placed_tests elements tests) → StandsAt (symbols_of elements) p
each_stands elements tests stand p i =
    elim (once_among [] (flat_map (λ t. placed_by t (occurrence elements t.field) (occurrence elements t.referent)) tests) p i) [
      | inl j ↦ absurd j
      | inr j ↦ let found = in_flat_map (λ t. placed_by t (occurrence elements t.field) (occurrence elements t.referent)) p tests j in
          placed_stand (symbols_of elements) found.0 (stand found.0 found.1) (occurrence elements found.0.field) (occurrence elements found.0.referent) (at_occurrence elements found.0.field) (at_occurrence elements found.0.referent) p found.2
    ]

-- ---- the conditions pass

module _ (variablized : List Variablized) where
  abbrev F : Atom → Atom
  F = with_variables false variablized

  no_plain : (ps : List Placed) (s : Sym) → after_plain (map (test_with F) (map as_test ps)) s [] ≡ Some []
  no_plain [] s = refl
  no_plain (p ∷ ps) s = no_plain ps s

  tests_pass : (ps : List Placed) (s : Sym) → ((p : Placed) → IsIn p ps → stands p.relation s p.right ≡ true) → others_pass (map (test_with F) (map as_test ps)) s [] ≡ true
  tests_pass [] s h = refl
  tests_pass (p ∷ ps) s h = and_true (stands p.relation s p.right) (others_pass (map (test_with F) (map as_test ps)) s []) (h p (inl refl)) (tests_pass ps s (λ q i. h q (inr i)))

  field_passes : (ps : List Placed) (s : Sym) → ((p : Placed) → IsIn p ps → stands p.relation s p.right ≡ true) → passes (map (test_with F) (Plain (Const s) ∷ map as_test ps)) s [] ≡ Some []
  field_passes ps s h =
      ap (option_and_then (λ after. cond (others_pass (map (test_with F) (map as_test ps)) s after) (Some after) None))
      (ap (λ b. cond b (after_plain (map (test_with F) (map as_test ps)) s []) None) (same_itself s) ∙ no_plain ps s)
      ∙ ap (λ b. cond b (Some []) None) (tests_pass ps s h)

  module _ (placed : List Placed) (all : List Sym) (stand : (p : Placed) → IsIn p placed → StandsAt all p) where
    here_stands : (front back : List Sym) (s : Sym) (n : ℕ) → all ≡ front ++ s ∷ back → length front ≡ n → (p : Placed) → IsIn p (tests_here placed n) → stands p.relation s p.right ≡ true
    here_stands front back s n parts place p i =
        let among = filter_within (λ p. p.at == n) placed p i in
        let good = stand p among.0 in
        let same = one_symbol all front back good.here.front good.here.back s good.symbol parts good.here.parts (good.here.place ∙ same_number p.at n among.1 ∙ sym place) in
        subst (λ x. stands p.relation x p.right ≡ true) same.1 good.stands

    either : (b : Bool) → (not b || b) ≡ true
    either true = refl
    either false = refl

    negations_pass : (ds : List Condition) → ((d : Condition) → IsIn d ds → IsNegation d) → passed_on (conditions_with F (all_of ds)) [] [] ≡ Some []
    negations_pass [] h = refl
    negations_pass (positive p ∷ ds) h = absurd (h (positive p) (inl refl))
    negations_pass (negated p ∷ ds) h = negations_pass ds (λ d i. h d (inr i))
    negations_pass (conjunctive cs ∷ ds) h = negations_pass ds (λ d i. h d (inr i))

    length_push : (front : List Sym) (s : Sym) → length (front ++ s ∷ []) ≡ length front + 1
    length_push [] s = omega arith
    length_push (t ∷ front) s = omega (arith, length_push front s)

    elements_pass : (elements : List Element) (front : List Sym) (first : ℕ) (ds : List Condition) → all ≡ front ++ symbols_of elements → length front ≡ first → ((d : Condition) → IsIn d ds → IsNegation d)
        → passed_on (conditions_with F (all_of (conditions_from placed first elements ++ ds))) elements [] ≡ Some []
    elements_pass [] front first ds parts place h = negations_pass ds h
    elements_pass (e ∷ elements) front first ds parts place h =
        let front_id : List Sym = front ++ e.id ∷ [] in
        let front_attr : List Sym = front_id ++ e.attr ∷ [] in
        let front_value : List Sym = front_attr ++ e.value ∷ [] in
        let parts_attr : all ≡ front_id ++ e.attr ∷ e.value ∷ symbols_of elements = parts ∙ sym (append_assoc front (e.id ∷ []) (e.attr ∷ e.value ∷ symbols_of elements)) in
        let parts_value : all ≡ front_attr ++ e.value ∷ symbols_of elements = parts_attr ∙ sym (append_assoc front_id (e.attr ∷ []) (e.value ∷ symbols_of elements)) in
        let parts_rest : all ≡ front_value ++ symbols_of elements = parts_value ∙ sym (append_assoc front_attr (e.value ∷ []) (symbols_of elements)) in
        let a : length front_id ≡ first + 1 = length_push front e.id ∙ ap (λ n. n + 1) place in
        let b : length front_attr ≡ first + 2 = length_push front_id e.attr ∙ ap (λ n. n + 1) a ∙ two first in
        let d : length front_value ≡ first + 3 = length_push front_attr e.value ∙ ap (λ n. n + 1) b ∙ three first in
        let id_tests = map (test_with F) (Plain (Const e.id) ∷ map as_test (tests_here placed first)) in
        let attr_tests = map (test_with F) (Plain (Const e.attr) ∷ map as_test (tests_here placed (first + 1))) in
        let value_tests = map (test_with F) (Plain (Const e.value) ∷ map as_test (tests_here placed (first + 2))) in
        let marks : (mark_eq e.accept e.accept && (not e.of_state || e.of_state)) ≡ true = and_true (mark_eq e.accept e.accept) (not e.of_state || e.of_state) (same_mark e.accept) (either e.of_state) in
        let rest = conditions_with F (all_of (conditions_from placed (first + 3) elements ++ ds)) in
        ap (λ t. option_and_then (passed_on rest elements) (if_taken t (option_and_then (passes value_tests e.value) (option_and_then (passes attr_tests e.attr) (passes id_tests e.id []))))) marks
        ∙ ap (λ o. option_and_then (passed_on rest elements) (option_and_then (passes value_tests e.value) (option_and_then (passes attr_tests e.attr) o)))
        (field_passes (tests_here placed first) e.id (here_stands front (e.attr ∷ e.value ∷ symbols_of elements) e.id first parts place))
        ∙ ap (λ o. option_and_then (passed_on rest elements) (option_and_then (passes value_tests e.value) o))
        (field_passes (tests_here placed (first + 1)) e.attr (here_stands front_id (e.value ∷ symbols_of elements) e.attr (first + 1) parts_attr a))
        ∙ ap (option_and_then (passed_on rest elements))
        (field_passes (tests_here placed (first + 2)) e.value (here_stands front_attr (symbols_of elements) e.value (first + 2) parts_value b))
        ∙ elements_pass elements front_value (first + 3) ds parts_rest d h
      where
        two : (n : ℕ) → n + 1 + 1 ≡ n + 2
        two n = omega arith

        three : (n : ℕ) → n + 2 + 1 ≡ n + 3
        three n = omega arith

  -- ---- the actions make the results

  referent_is : (k : PrefKind) (r : Option Sym) (n : Naming) → RefFits k r → evaluated_referent (referent_of (preference_with F (preference_of k r))) n ≡ record { value = Ok r; naming = n }
  referent_is kind.Better (Some s) n f = refl
  referent_is kind.Worse (Some s) n f = refl
  referent_is kind.Numeric (Some s) n f = refl
  referent_is kind.IndifferentTo (Some s) n f = refl
  referent_is kind.Accept None n f = refl
  referent_is kind.Require None n f = refl
  referent_is kind.Reject None n f = refl
  referent_is kind.Prohibit None n f = refl
  referent_is kind.Best None n f = refl
  referent_is kind.Worst None n f = refl
  referent_is kind.Indifferent None n f = refl
  referent_is kind.Better None n f = absurd f
  referent_is kind.Worse None n f = absurd f
  referent_is kind.Numeric None n f = absurd f
  referent_is kind.IndifferentTo None n f = absurd f
  referent_is kind.Accept (Some s) n f = absurd f
  referent_is kind.Require (Some s) n f = absurd f
  referent_is kind.Reject (Some s) n f = absurd f
  referent_is kind.Prohibit (Some s) n f = absurd f
  referent_is kind.Best (Some s) n f = absurd f
  referent_is kind.Worst (Some s) n f = absurd f
  referent_is kind.Indifferent (Some s) n f = absurd f

  kind_is : (k : PrefKind) (r : Option Sym) → RefFits k r → kind_of (preference_with F (preference_of k r)) r ≡ k
  kind_is kind.Better r f = refl
  kind_is kind.Worse r f = refl
  kind_is kind.Numeric (Some (Int z)) f = refl
  kind_is kind.Numeric (Some (Ident l n)) f = absurd f
  kind_is kind.Numeric (Some (Word x)) f = absurd f
  kind_is kind.Numeric None f = absurd f
  kind_is kind.IndifferentTo (Some (Int z)) f = absurd f
  kind_is kind.IndifferentTo (Some (Ident l n)) f = refl
  kind_is kind.IndifferentTo (Some (Word x)) f = refl
  kind_is kind.IndifferentTo None f = absurd f
  kind_is kind.Accept r f = refl
  kind_is kind.Require r f = refl
  kind_is kind.Reject r f = refl
  kind_is kind.Prohibit r f = refl
  kind_is kind.Best r f = refl
  kind_is kind.Worst r f = refl
  kind_is kind.Indifferent r f = refl

  one_made : (goals : List Goal) (place : ℕ) (x : Wish) (made : MadeSoFar) → CanBeMade goals x → with_action goals place (action_with F (action_of x)) made ≡ record made { wishes = made.wishes ++ x ∷ [] }
  one_made goals place x made can =
      ap (with_wish place made)
      (wished_is goals (Const x.id) (atom_value (Const x.attr)) (atom_value (Const x.value)) (preference_with F (preference_of x.kind x.referent)) made.naming made.naming made.naming made.naming made.naming
      x.id x.attr x.value x.referent refl can.identifier refl refl (referent_is x.kind x.referent made.naming can.referent)
      ∙ (λ i. record { value = judged_as (kind_is x.kind x.referent can.referent i); naming = made.naming }) ∙ (λ i. record { value = can.allowed i; naming = made.naming }))
    where
      judged_as : PrefKind → Result Wish DropCause
      judged_as k = judged goals (record { id = x.id; attr = x.attr; value = x.value; kind = k; referent = x.referent })

  all_made : (goals : List Goal) (place : ℕ) (xs : List Wish) (made : MadeSoFar) → ((x : Wish) → IsIn x xs → CanBeMade goals x)
      → with_actions goals place (map (λ x. action_with F (action_of x)) xs) made ≡ record made { wishes = made.wishes ++ xs }
  all_made goals place [] made h = λ i. record made { wishes = sym (append-nil made.wishes) i }
  all_made goals place (x ∷ xs) made h =
      ap (with_actions goals (suc place) (map (λ x. action_with F (action_of x)) xs)) (one_made goals place x made (h x (inl refl)))
      ∙ all_made goals (suc place) xs (record made { wishes = made.wishes ++ x ∷ [] }) (λ y i. h y (inr i)) ∙ (λ i. record made { wishes = append_assoc made.wishes (x ∷ []) xs i })

-- ---- the firing

no_binds : (vs : List ℕ) → paired vs [] ≡ []
no_binds [] = refl
no_binds (v ∷ vs) = refl

module _ (m : BeforeWave) (l : ExplainedFiring) (words order : Texts) (letters : List ℕ) (firing number : ℕ) (name : Sym) (lawful : IsLawful words l.chain m.elements) (long : length letters ≡ 26)
    (given : (n k : ℕ) → is_goal m.reach.goals (Ident n k) ≡ true → k ≤ last_of letters n) (can : (x : Wish) → IsIn x l.chain.results → CanBeMade m.reach.goals x)
    (tags : TagsTellUses m (all_grounds (ordered_grounds words l.chain.grounds))) (there : (e : Element) → IsIn e l.chain.grounds → IsIn e m.elements) where
  abbrev c : ChainOf
  c = l.chain

  abbrev depth : ℕ
  depth = l.explained.depth

  abbrev elements : List Element
  elements = all_grounds (ordered_grounds words c.grounds)

  abbrev rule : RuleOf
  rule = justification_of words c depth name number

  abbrev mine : FiringOf
  mine = learned_firing m order firing rule elements [] c.results

  tell : TagsTell c.grounds
  tell e f i j q = tags.0 e f (there e i) (there f j) q

  of_order : IsOrderOf words c.grounds (ordered_grounds words c.grounds)
  of_order = is_order_of words c.grounds tell

  is_there : (e : Element) → IsIn e elements → IsIn e m.elements
  is_there e i = there e (elim (in_append e (ordered_grounds words c.grounds).taken (ordered_grounds words c.grounds).left i) [ inl j ↦ of_order.taken e j | inr j ↦ of_order.left e j ])

  abbrev used : List Element
  used = map (λ (u : Used). u.element) (all_uses m.reach m.rows (match_depth m.reach.goals elements) elements)

  passes_again : passed_on rule.production.conditions (elements_matched used (map (λ (e : Element). e.tag) elements)) [] ≡ Some (bindings_of rule.production (record { rule = number; tags = map (λ (e : Element). e.tag) elements; binds = [] }))
  unfolding literal_form
  passes_again =
      let again = matched_again elements used (λ e i. each_used m.reach m.rows (match_depth m.reach.goals elements) elements e i) (λ e f i j q. tags.1 e f (is_there e i) j q) in
      ap (λ es. passed_on rule.production.conditions es []) again
      ∙ elements_pass _ (placed_tests elements (carried_tests c depth)) (symbols_of elements)
      (each_stands elements (carried_tests c depth) (carried_stand c depth (λ f i. (lawful.firings f i).passes))) elements [] 0 (negations_taken_over c depth) refl refl (taken_over_negations c depth)
      ∙ ap Some (sym (no_binds (bound_variables rule.production.conditions)))

  same_made : (later : Texts) → made_again later letters mine ≡ c.results
  unfolding literal_form
  same_made later =
      ap (λ (x : MadeSoFar). x.wishes) (recorded_alike order m.reach.goals rule (record { rule = number; tags = map (λ (e : Element). e.tag) elements; binds = [] }) later letters given long)
      ∙ ap (λ (x : MadeSoFar). x.wishes) (all_made _ m.reach.goals 1 c.results (record {
        wishes = [];
        text = [];
        halted = false;
        dropped = [];
        naming = record { bindings = bindings_of rule.production (record { rule = number; tags = map (λ (e : Element). e.tag) elements; binds = [] }); words = later; letters = letters; vars = rule.production.vars; totals = [] };
      }) can)

pub justification_firings_are_lawful : JustificationFiringsAreLawful
justification_firings_are_lawful m l words order letters firing number name lawful long given can tags there = record {
  passes = passes_again m l words order letters firing number name lawful long given can tags there;
  makes = λ later g. record {
    letters = letters;
    alike = alike_as_is (is_new_in (mine m l words order letters firing number name lawful long given can tags there)) l.chain.results _ (same_made m l words order letters firing number name lawful long given can tags there later);
  };
}
