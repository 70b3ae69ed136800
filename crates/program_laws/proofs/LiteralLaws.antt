-- A justification's conditions can be matched as they stand: its positive ones have constants alone, and its negations stand ready.
use Rattle.std.proofs.Common.{◌≡◌, refl, ap, subst, ℕ, suc, ◌+◌, ◌≤◌, nat_lt, max, Bool, true, false, ◌==◌, inl, inr, ◌⊎◌, arith, List, [], ◌∷◌, ◌++◌, map, flat_map, filter, Option, None}
use Rattle.std.specs.Prelude.{not}
use Rattle.soar_sym.specs.Words.{Texts}
use Rattle.soar_sym.specs.declared.symbol.Sym.{Sym}
use Rattle.soar_rule.specs.declared.cond.Atom.{Atom}
use Rattle.soar_rule.specs.declared.cond.Atom.TheVariants.{Const}
use Rattle.soar_rule.specs.declared.cond.Pattern.{Pattern}
use Rattle.soar_rule.specs.declared.cond.Test.TheVariants.{Rel}
use Rattle.soar_rule.specs.AsItStands.{are_bound_where_they_stand, can_be_matched, is_bound_where_it_stands, is_nothing}
use Rattle.soar_rule.specs.Conditions.{all_of, Condition, condition_and, Conditions, conjunctive, negated, no_more, positive}
use Rattle.soar_rule.specs.MatchOrder.{first_unknown, missing_in, or_else}
use Rattle.soar_rule.specs.Renaming.{condition_with, conditions_with, pattern_with, test_with}
use Rattle.soar_rule.specs.Sizes.{depth_of, depth_of_all}
use Rattle.soar_rule.specs.Variables.{bound_by, bound_variables, plain_in, plain_in_test, plain_of_pattern, plain_outside, related_in, related_in_test, with_each}
use Rattle.soar_wm.specs.declared.element.Element.{Element}
use Rattle.defs_soar.specs.Candidate.{all_grounds, conditions_from, conditions_of, literal_form, named_form, plain_and, with_variables}
use Rattle.defs_soar.specs.CarriedTests.{carried_tests, Placed, placed_tests, tests_at}
use Rattle.defs_soar.specs.ChainIdentifiers.{firings_of}
use Rattle.defs_soar.specs.ConditionOrder.{ordered_grounds}
use Rattle.defs_soar.specs.History.{ChainOf}
use Rattle.defs_soar.specs.Laws.{IsIn}
use Rattle.defs_soar.specs.Negations.{bindings_in, bound_atom, is_superstate_negation, negations_in, negations_of, negations_taken_over, own_count, renumbered_from, superstate_negations, with_own_from, with_own_variables, without_repeats}
use Rattle.defs_soar.specs.Variablized.{each_variablized_once, Variablized, variablized_in_conditions, variablized_in_wish}
use Rattle.learning_laws.specs.Ready.{NegationsReady}
use Rattle.learning_laws.specs.Standing.{StandReady, StandsReady}
use Rattle.learning_laws.proofs.CheckedReady.{stands_more}
use Rattle.learning_laws.proofs.ConflictLaws.{once_among}
use Rattle.learning_laws.proofs.Lists.{and_true, filter_within, in_flat_map, in_map}
use Rattle.learning_laws.proofs.RuleLaws.{justifications_stand}

-- ---- what stands ready is bound where it stands

mutual
  stands_bound : (d : Condition) (outside bound : List ℕ) → StandsReady outside bound d → is_bound_where_it_stands bound d ≡ true
  stands_bound (positive p) outside bound h = ap is_nothing h
  stands_bound (negated p) outside bound h = ap is_nothing h.1
  stands_bound (conjunctive inside) outside bound h = stand_bound inside (plain_outside inside) bound h.1

  stand_bound : (cs : Conditions) (outside bound : List ℕ) → StandReady outside bound cs → are_bound_where_they_stand bound cs ≡ true
  stand_bound no_more outside bound h = refl
  stand_bound (condition_and d cs) outside bound h =
      and_true (is_bound_where_it_stands bound d) (are_bound_where_they_stand (bound ++ bound_by d) cs) (stands_bound d outside bound h.0) (stand_bound cs outside (bound ++ bound_by d) h.1)

-- ---- what is taken over are negations

abbrev IsNegation : Condition → Type 0
IsNegation (positive p) = ⊥
IsNegation (negated p) = Unit {0}
IsNegation (conjunctive inside) = Unit {0}

negation_with : (f : Atom → Atom) (d : Condition) → IsNegation d → IsNegation (condition_with f d)
negation_with f (positive p) h = h
negation_with f (negated p) h = tt
negation_with f (conjunctive inside) h = tt

negation_in : (cs : Conditions) (d : Condition) → IsIn d (negations_in cs) → IsNegation d
negation_in no_more d i = absurd i
negation_in (condition_and (positive p) cs) d i = negation_in cs d i
negation_in (condition_and (negated p) cs) d (inl q) = subst IsNegation q tt
negation_in (condition_and (negated p) cs) d (inr i) = negation_in cs d i
negation_in (condition_and (conjunctive inside) cs) d (inl q) = subst IsNegation q tt
negation_in (condition_and (conjunctive inside) cs) d (inr i) = negation_in cs d i

own_negations : (first : ℕ) (ds : List Condition) → ((e : Condition) → IsIn e ds → IsNegation e) → (d : Condition) → IsIn d (with_own_variables first ds) → IsNegation d
own_negations first [] h d i = absurd i
own_negations first (e ∷ ds) h d (inl q) = subst IsNegation q (negation_with (renumbered_from first _) e (h e (inl refl)))
own_negations first (e ∷ ds) h d (inr i) = own_negations (first + own_count e) ds (λ x j. h x (inr j)) d i

taken_negations : (c : ChainOf) (depth : ℕ) (d : Condition) → IsIn d (negations_taken_over c depth) → IsNegation d
unfolding negations_taken_over
taken_negations c depth d i =
    own_negations 0 (without_repeats [] (flat_map (superstate_negations c depth) (firings_of c)))
    (λ e j. each e (once_among [] (flat_map (superstate_negations c depth) (firings_of c)) e j)) d i
  where
    each : (e : Condition) → IsIn e [] ⊎ IsIn e (flat_map (superstate_negations c depth) (firings_of c)) → IsNegation e
    each e (inl j) = absurd j
    each e (inr j) =
        let f = in_flat_map (superstate_negations c depth) e (firings_of c) j in
        let n = in_map (λ d. with_own_from 0 (condition_with (bound_atom (bindings_in f.0)) d)) e (filter (is_superstate_negation c depth f.0) (negations_of f.0)) f.2 in
        let among = (filter_within (is_superstate_negation c depth f.0) (negations_of f.0) n.0 n.1).0 in
        subst IsNegation n.2
        (negation_with (renumbered_from 0 _) (condition_with (bound_atom (bindings_in f.0)) n.0) (negation_with (bound_atom (bindings_in f.0)) n.0 (negation_in f.0.rule.production.conditions n.0 among)))

-- ---- the conditions of a rule in which identifiers stay

module _ (variablized : List Variablized) where
  abbrev F : Atom → Atom
  F = with_variables false variablized

  none_related : (ps : List Placed) → flat_map related_in_test (map (test_with F) (map (λ p. Rel p.relation (Const p.right)) ps)) ≡ []
  none_related [] = refl
  none_related (p ∷ ps) = none_related ps

  none_plain : (ps : List Placed) → flat_map plain_in_test (map (test_with F) (map (λ p. Rel p.relation (Const p.right)) ps)) ≡ []
  none_plain [] = refl
  none_plain (p ∷ ps) = none_plain ps

  abbrev pattern : List Placed → ℕ → Element → Pattern
  pattern placed first e =
      pattern_with F (record {
        state = e.of_state;
        id = plain_and e.id (tests_at placed first);
        attr = plain_and e.attr (tests_at placed (first + 1));
        value = plain_and e.value (tests_at placed (first + 2));
        accept = e.accept;
      })

  related_at : (placed : List Placed) (n : ℕ) → flat_map related_in_test (map (test_with F) (tests_at placed n)) ≡ []
  related_at placed n = none_related (filter (λ p. p.at == n) placed)

  plain_at : (placed : List Placed) (n : ℕ) → flat_map plain_in_test (map (test_with F) (tests_at placed n)) ≡ []
  plain_at placed n = none_plain (filter (λ p. p.at == n) placed)

  none_missing : (a b c : Option ℕ) → a ≡ None → b ≡ None → c ≡ None → or_else a (or_else b c) ≡ None
  none_missing a b c p q r = cc

  -- a ground's condition binds nothing and lacks nothing
  ground_bound : (placed : List Placed) (first : ℕ) (e : Element) (bound : List ℕ) → missing_in bound (pattern placed first e) ≡ None
  ground_bound placed first e bound =
      let p = pattern placed first e in
      let in_id = bound ++ plain_in p.id in
      let in_attr = in_id ++ plain_in p.attr in
      none_missing (first_unknown in_id (related_in p.id)) (first_unknown in_attr (related_in p.attr)) (first_unknown (in_attr ++ plain_in p.value) (related_in p.value))
      (ap (first_unknown in_id) (related_at placed first)) (ap (first_unknown in_attr) (related_at placed (first + 1))) (ap (first_unknown (in_attr ++ plain_in p.value)) (related_at placed (first + 2)))

  ground_plain : (placed : List Placed) (first : ℕ) (e : Element) → plain_of_pattern (pattern placed first e) ≡ []
  ground_plain placed first e = λ i. plain_at placed first i ++ (plain_at placed (first + 1) i ++ plain_at placed (first + 2) i)

  abbrev moved : List Placed → ℕ → List Element → List Condition → Conditions
  moved placed first elements ds = conditions_with F (all_of (conditions_from placed first elements ++ ds))

  -- ---- negations among them

  negations_plain : (ds : List Condition) → ((d : Condition) → IsIn d ds → IsNegation d) → plain_outside (conditions_with F (all_of ds)) ≡ []
  negations_plain [] h = refl
  negations_plain (positive p ∷ ds) h = absurd (h (positive p) (inl refl))
  negations_plain (negated p ∷ ds) h = negations_plain ds (λ d i. h d (inr i))
  negations_plain (conjunctive inside ∷ ds) h = negations_plain ds (λ d i. h d (inr i))

  all_plain : (placed : List Placed) (first : ℕ) (elements : List Element) (ds : List Condition) → ((d : Condition) → IsIn d ds → IsNegation d) → plain_outside (moved placed first elements ds) ≡ []
  all_plain placed first [] ds h = negations_plain ds h
  all_plain placed first (e ∷ elements) ds h = λ i. ground_plain placed first e i ++ all_plain placed (first + 3) elements ds h i

  one_bound : (d : Condition) (bound : List ℕ) → StandsReady [] [] d → is_bound_where_it_stands bound d ≡ true
  one_bound d bound h = stands_bound d [] bound (stands_more d [] [] bound (λ v i. absurd i) h)

  negations_bound : (ds : List Condition) (bound : List ℕ) → ((d : Condition) → IsIn d ds → IsNegation d) → ((d : Condition) → IsIn d (negations_in (conditions_with F (all_of ds))) → StandsReady [] [] d)
      → are_bound_where_they_stand bound (conditions_with F (all_of ds)) ≡ true
  negations_bound [] bound n h = refl
  negations_bound (positive p ∷ ds) bound n h = absurd (n (positive p) (inl refl))
  negations_bound (negated p ∷ ds) bound n h =
      and_true (is_bound_where_it_stands bound (negated (pattern_with F p))) (are_bound_where_they_stand (bound ++ []) (conditions_with F (all_of ds))) (one_bound (negated (pattern_with F p)) bound (h (negated (pattern_with F p)) (inl refl)))
      (negations_bound ds (bound ++ []) (λ d i. n d (inr i)) (λ d i. h d (inr i)))
  negations_bound (conjunctive inside ∷ ds) bound n h =
      and_true (is_bound_where_it_stands bound (conjunctive (conditions_with F inside))) (are_bound_where_they_stand (bound ++ []) (conditions_with F (all_of ds)))
      (one_bound (conjunctive (conditions_with F inside)) bound (h (conjunctive (conditions_with F inside)) (inl refl))) (negations_bound ds (bound ++ []) (λ d i. n d (inr i)) (λ d i. h d (inr i)))

  all_bound : (placed : List Placed) (first : ℕ) (elements : List Element) (ds : List Condition) (bound : List ℕ) → ((d : Condition) → IsIn d ds → IsNegation d)
      → ((d : Condition) → IsIn d (negations_in (moved placed first elements ds)) → StandsReady [] [] d) → are_bound_where_they_stand bound (moved placed first elements ds) ≡ true
  all_bound placed first [] ds bound n h = negations_bound ds bound n h
  all_bound placed first (e ∷ elements) ds bound n h =
      let p = pattern placed first e in
      and_true (is_bound_where_it_stands bound (positive p)) (are_bound_where_they_stand (bound ++ plain_of_pattern p) (moved placed (first + 3) elements ds)) (ap is_nothing (ground_bound placed first e bound))
      (all_bound placed (first + 3) elements ds (bound ++ plain_of_pattern p) n h)

-- ---- depth

both_few : (a b : ℕ) → a ≤ 8 → b ≤ 8 → max a b ≤ 8
both_few a b h k = grind arith

depth_few : (cs : Conditions) → ((d : Condition) → IsIn d (negations_in cs) → depth_of d ≤ 8) → depth_of_all cs ≤ 8
depth_few no_more h = omega arith
depth_few (condition_and (positive p) cs) h = both_few 0 (depth_of_all cs) (omega arith) (depth_few cs h)
depth_few (condition_and (negated p) cs) h = both_few 1 (depth_of_all cs) (omega arith) (depth_few cs (λ d i. h d (inr i)))
depth_few (condition_and (conjunctive inside) cs) h = both_few (suc (depth_of_all inside)) (depth_of_all cs) (h (conjunctive inside) (inl refl)) (depth_few cs (λ d i. h d (inr i)))

not_deep : (n : ℕ) → n ≤ 8 → not (nat_lt 8 n) ≡ true
not_deep n h = go (nat_lt 8 n) refl
  where
    go : (b : Bool) → nat_lt 8 n ≡ b → not b ≡ true
    go false q = refl
    go true q = absurd (grind arith)

-- ---- the whole

pub literal_matched : (words : Texts) (c : ChainOf) (depth : ℕ) (name : Sym) → NegationsReady c → can_be_matched (record (named_form words (literal_form words c depth)) { name = name }) ≡ true
unfolding literal_form
literal_matched words c depth name ready =
    and_true (are_bound_where_they_stand [] conditions) (not (nat_lt 8 (depth_of_all conditions)))
    (all_bound variablized placed 0 elements (negations_taken_over c depth) [] (taken_negations c depth) (λ d i. subst (λ bound. StandsReady [] bound d) nothing_bound (stand d i).0))
    (not_deep (depth_of_all conditions) (depth_few conditions (λ d i. (stand d i).1)))
  where
    elements : List Element
    elements = all_grounds (ordered_grounds words c.grounds)

    placed : List Placed
    placed = placed_tests elements (carried_tests c depth)

    variablized : List Variablized
    variablized = each_variablized_once [] (variablized_in_conditions false (conditions_of c depth elements) ++ flat_map (variablized_in_wish false) c.results)

    conditions : Conditions
    conditions = conditions_with (with_variables false variablized) (conditions_of c depth elements)

    stand : (d : Condition) → IsIn d (negations_in conditions) → StandsReady [] (bound_variables conditions) d × (depth_of d ≤ 8)
    stand = justifications_stand words c depth name ready

    nothing_bound : bound_variables conditions ≡ []
    nothing_bound = ap (with_each []) (all_plain variablized placed 0 elements (negations_taken_over c depth) (taken_negations c depth))
