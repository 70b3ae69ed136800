-- The negations of a firing's rule are ready where the variables of the firing are bound; and those of justifications are.
use Rattle.std.proofs.Common.{◌≡◌, refl, sym, ◌∙◌, ap, subst, ℕ, ◌+◌, ◌≤◌, Bool, true, false, ◌==◌, cond, inl, inr, ◌⊎◌, arith, List, [], ◌∷◌, ◌++◌, map, flat_map, Option, Some, None, option_and_then}
use Rattle.std.proofs.lemmas.List.{append-nil}
use Rattle.soar_sym.specs.Equality.{symbol_eq}
use Rattle.soar_sym.specs.declared.symbol.Sym.{Sym}
use Rattle.soar_rule.specs.declared.cond.Atom.{Atom}
use Rattle.soar_rule.specs.declared.cond.Atom.TheVariants.{Const, Var}
use Rattle.soar_rule.specs.declared.cond.Pattern.{Pattern}
use Rattle.soar_rule.specs.declared.cond.Test.{Test}
use Rattle.soar_rule.specs.declared.cond.Test.TheVariants.{Plain, Rel, OneOf}
use Rattle.soar_rule.specs.Conditions.{Condition, positive, negated, conjunctive, Conditions, no_more, condition_and, all_of}
use Rattle.soar_rule.specs.Renaming.{condition_with, conditions_with}
use Rattle.soar_rule.specs.Sizes.{depth_of}
use Rattle.soar_rule.specs.Variables.{bound_variables, plain_in_test, plain_in, plain_of_pattern, plain_outside}
use Rattle.soar_wm.specs.declared.element.Element.{Element}
use Rattle.defs_match.specs.Rows.{bindings_at, takes_marks}
use Rattle.defs_match.specs.Testing.{after_plain, bind, Bindings, others_pass, passes, symbol_of}
use Rattle.defs_soar.specs.Candidate.{all_grounds, conditions_from, conditions_of, literal_form, variablized_place, with_variables}
use Rattle.defs_soar.specs.CarriedTests.{carried_tests, Placed, placed_tests}
use Rattle.defs_soar.specs.ConditionOrder.{ordered_grounds}
use Rattle.defs_soar.specs.Laws.{IsIn}
use Rattle.defs_soar.specs.Negations.{bindings_in, negations_in, negations_taken_over}
use Rattle.defs_soar.specs.Variablized.{each_variablized_once, of_own, Variablized, variablized_in_atom, variablized_in_condition, variablized_in_conditions, variablized_in_field, variablized_in_test, variablized_in_wish}
use Rattle.rule_laws.proofs.OccurrenceLaws.{each_among}
use Rattle.learning_laws.specs.Ready.{FiringsStand, IsReadyNegation, JustificationsStand}
use Rattle.learning_laws.specs.Replay.{elements_of_firing, if_taken, passed_on}
use Rattle.learning_laws.specs.Standing.{StandsReady}
use Rattle.learning_laws.proofs.CarriedStand.{element_grows, field_passed, Grows, GrowsTo, grows_on, plain_grows, some_then, taken_is}
use Rattle.learning_laws.proofs.CheckedReady.{stands_more}
use Rattle.learning_laws.proofs.Lists.{in_append, in_left, in_right}
use Rattle.learning_laws.proofs.Moving.{first_plain, InCondition, InConditions, InPattern, InTest, InTests, plain_step}
use Rattle.learning_laws.proofs.ShiftLaws.{Shift, stands_shifted}
use Rattle.learning_laws.proofs.Shifting.{AllIn, among_in, in_among}
use Rattle.learning_laws.proofs.SlotCover.{Among}
use Rattle.learning_laws.proofs.SlotLaws.{own_same, slot_kept}
use Rattle.learning_laws.proofs.StandingNegations.{depth_with, taken_over_ready}

-- ---- what passes binds its plain variables

abbrev variables_of : Bindings → List ℕ
variables_of bs = map (λ b. b.0) bs

known_in : (v : ℕ) (s : Sym) (bs : Bindings) → symbol_of v bs ≡ Some s → IsIn v (variables_of bs)
known_in v s [] h = absurd (cc)
known_in v s (b ∷ bs) h = go (b.0 == v) refl h (known_in v s bs)
  where
    go : (e : Bool) → (b.0 == v) ≡ e → cond e (Some b.1) (symbol_of v bs) ≡ Some s → (symbol_of v bs ≡ Some s → IsIn v (variables_of bs)) → (b.0 ≡ v) ⊎ IsIn v (variables_of bs)
    go true q k later = inl (grind arith)
    go false q k later = inr (later k)

variables_append : (bs more : Bindings) → variables_of (bs ++ more) ≡ variables_of bs ++ variables_of more
variables_append [] more = refl
variables_append (b ∷ bs) more = ap (λ l. b.0 ∷ l) (variables_append bs more)

grown_in : (bs cs : Bindings) → Grows bs cs → AllIn (variables_of bs) (variables_of cs)
grown_in bs cs g v i = subst (λ x. IsIn v (variables_of x)) (sym g.1) (subst (λ l. IsIn v l) (sym (variables_append bs g.0)) (in_left v (variables_of bs) (variables_of g.0) i))

-- a step that binds a variable leaves it bound
bound_then : (v : ℕ) (s : Sym) (bs cs : Bindings) (o : Option Sym) → symbol_of v bs ≡ o → bind v s bs o ≡ Some cs → IsIn v (variables_of cs)
bound_then v s bs cs None q h =
    let same : bs ++ (v, s) ∷ [] ≡ cs = cc in
    subst (λ x. IsIn v (variables_of x)) same (subst (λ l. IsIn v l) (sym (variables_append bs ((v, s) ∷ []))) (in_right v (variables_of bs) (v ∷ []) (inl refl)))
bound_then v s bs cs (Some t) q h = go (symbol_eq s t) h
  where
    go : (b : Bool) → cond b (Some bs) None ≡ Some cs → IsIn v (variables_of cs)
    go true k = let same : bs ≡ cs = cc in subst (λ x. IsIn v (variables_of x)) same (known_in v t bs q)
    go false k = absurd (cc)

grows_of : (ts : List Test) (s : Sym) (bs cs : Bindings) → after_plain ts s bs ≡ Some cs → Grows bs cs
grows_of ts s bs cs h = go (after_plain ts s bs) (plain_grows ts s bs) h
  where
    go : (o : Option Bindings) → GrowsTo bs o → o ≡ Some cs → Grows bs cs
    go None g q = absurd (cc)
    go (Some ds) g q = let same : ds ≡ cs = cc in subst (λ x. Grows bs x) same g

plain_bound : (ts : List Test) (s : Sym) (bs cs : Bindings) → after_plain ts s bs ≡ Some cs → AllIn (flat_map plain_in_test ts) (variables_of cs)
plain_bound [] s bs cs h v i = absurd i
plain_bound (Rel r a ∷ ts) s bs cs h v i = plain_bound ts s bs cs h v i
plain_bound (OneOf symbols ∷ ts) s bs cs h v i = plain_bound ts s bs cs h v i
plain_bound (Plain (Const c) ∷ ts) s bs cs h v i =
    let k = some_then (after_plain ts s) (plain_step (Const c) s bs) cs (sym (first_plain (Const c) ts s bs) ∙ h) in plain_bound ts s k.0 cs k.2 v i
plain_bound (Plain (Var u) ∷ ts) s bs cs h v (inl e) =
    let k = some_then (after_plain ts s) (bind u s bs (symbol_of u bs)) cs h in
    grown_in k.0 cs (grows_of ts s k.0 cs k.2) v (subst (λ x. IsIn x (variables_of k.0)) e (bound_then u s bs k.0 (symbol_of u bs) refl k.1))
plain_bound (Plain (Var u) ∷ ts) s bs cs h v (inr i) =
    let k = some_then (after_plain ts s) (bind u s bs (symbol_of u bs)) cs h in plain_bound ts s k.0 cs k.2 v i

field_bound : (ts : List Test) (s : Sym) (bs cs : Bindings) → passes ts s bs ≡ Some cs → AllIn (flat_map plain_in_test ts) (variables_of cs)
field_bound ts s bs cs h v i =
    let k = some_then (λ after. cond (others_pass ts s after) (Some after) None) (after_plain ts s bs) cs h in plain_bound ts s bs cs (k.1 ∙ same (others_pass ts s k.0) k.0 k.2) v i
  where
    same : (b : Bool) (x : Bindings) → cond b (Some x) None ≡ Some cs → ◌≡◌ {A = Option Bindings} (Some x) (Some cs)
    same true x q = q
    same false x q = absurd (cc)

element_bound : (p : Pattern) (e : Element) (bs cs : Bindings) → bindings_at p e bs ≡ Some cs → AllIn (plain_of_pattern p) (variables_of cs)
element_bound p e bs cs h v i =
    let value = some_then (passes p.value.tests e.value) (option_and_then (passes p.attr.tests e.attr) (passes p.id.tests e.id bs)) cs h in
    let attr = some_then (passes p.attr.tests e.attr) (passes p.id.tests e.id bs) value.0 value.1 in
    let in_attr = field_passed p.attr.tests e.attr attr.0 value.0 attr.2 in
    let in_value = field_passed p.value.tests e.value value.0 cs value.2 in
    elim (in_append v (plain_in p.id) (plain_in p.attr ++ plain_in p.value) i) [
      | inl j ↦ grown_in attr.0 cs (grows_on attr.0 value.0 cs in_attr.grows in_value.grows) v (field_bound p.id.tests e.id bs attr.0 attr.1 v j)
      | inr j ↦ elim (in_append v (plain_in p.attr) (plain_in p.value) j) [
        | inl k ↦ grown_in value.0 cs in_value.grows v (field_bound p.attr.tests e.attr attr.0 value.0 attr.2 v k)
        | inr k ↦ field_bound p.value.tests e.value value.0 cs value.2 v k
      ]
    ]

passed_grows : (cs : Conditions) (elements : List Element) (bs all : Bindings) → passed_on cs elements bs ≡ Some all → Grows bs all × AllIn (plain_outside cs) (variables_of all)
passed_grows no_more [] bs all h = let same : bs ≡ all = cc in (subst (λ x. Grows bs x) same ([], sym (append-nil bs)), λ v i. absurd i)
passed_grows no_more (e ∷ elements) bs all h = absurd (cc)
passed_grows (condition_and (positive p) cs) [] bs all h = absurd (cc)
passed_grows (condition_and (positive p) cs) (e ∷ elements) bs all h =
    let first = some_then (passed_on cs elements) (if_taken (takes_marks p e) (bindings_at p e bs)) all h in
    let here = taken_is (takes_marks p e) (bindings_at p e bs) first.0 first.1 in
    let later = passed_grows cs elements first.0 all first.2 in (
      grows_on bs first.0 all (element_grows p e bs first.0 here) later.0,
      (λ v i. elim (in_append v (plain_of_pattern p) (plain_outside cs) i) [
        | inl j ↦ grown_in first.0 all later.0 v (element_bound p e bs first.0 here v j)
        | inr j ↦ later.1 v j
      ]),
    )
passed_grows (condition_and (negated p) cs) elements bs all h = passed_grows cs elements bs all h
passed_grows (condition_and (conjunctive inside) cs) elements bs all h = passed_grows cs elements bs all h

pub firings_stand : FiringsStand
firings_stand words c each f i d j =
    let k = each f i in
    let stands = k.1 d j in
    let all = (passed_grows f.rule.production.conditions (elements_of_firing f) [] (bindings_in f) k.0.passes).1 in (
      stands_more d [] (bound_variables f.rule.production.conditions) (variables_of (bindings_in f))
          (λ v l. all v (among_in (plain_outside f.rule.production.conditions) v (sym (each_among [] (plain_outside f.rule.production.conditions) v) ∙ in_among (bound_variables f.rule.production.conditions) v l))) stands.0,
      stands.1,
    )

-- ---- justifications

module _ (variablized : List Variablized) where
  abbrev F : Atom → Atom
  F = with_variables false variablized

  -- its own variables are among those of the rule
  abbrev HasOwn : Atom → Type 0
  HasOwn a = Among (variablized_in_atom false a) variablized

  front_of : (xs ys : List Variablized) → Among (xs ++ ys) variablized → Among xs variablized
  front_of xs ys h x i = h x (in_left x xs ys i)

  back_of : (xs ys : List Variablized) → Among (xs ++ ys) variablized → Among ys variablized
  back_of xs ys h x i = h x (in_right x xs ys i)

  test_own : (t : Test) → Among (variablized_in_test false t) variablized → InTest HasOwn t
  test_own (Plain a) h = h
  test_own (Rel r a) h = h
  test_own (OneOf symbols) h = tt

  tests_own : (ts : List Test) → Among (flat_map (variablized_in_test false) ts) variablized → InTests HasOwn ts
  tests_own [] h = tt
  tests_own (t ∷ ts) h = (test_own t (front_of (variablized_in_test false t) (flat_map (variablized_in_test false) ts) h), tests_own ts (back_of (variablized_in_test false t) (flat_map (variablized_in_test false) ts) h))

  pattern_own : (p : Pattern) → Among (variablized_in_field false p.id ++ (variablized_in_field false p.attr ++ variablized_in_field false p.value)) variablized → InPattern HasOwn p
  pattern_own p h =
      let back = back_of (variablized_in_field false p.id) (variablized_in_field false p.attr ++ variablized_in_field false p.value) h in (
        tests_own p.id.tests (front_of (variablized_in_field false p.id) (variablized_in_field false p.attr ++ variablized_in_field false p.value) h),
        tests_own p.attr.tests (front_of (variablized_in_field false p.attr) (variablized_in_field false p.value) back),
        tests_own p.value.tests (back_of (variablized_in_field false p.attr) (variablized_in_field false p.value) back),
      )

  mutual
    condition_own : (c : Condition) → Among (variablized_in_condition false c) variablized → InCondition HasOwn c
    condition_own (positive p) h = pattern_own p h
    condition_own (negated p) h = pattern_own p h
    condition_own (conjunctive cs) h = conditions_own cs h

    conditions_own : (cs : Conditions) → Among (variablized_in_conditions false cs) variablized → InConditions HasOwn cs
    conditions_own no_more h = tt
    conditions_own (condition_and c cs) h =
        (condition_own c (front_of (variablized_in_condition false c) (variablized_in_conditions false cs) h), conditions_own cs (back_of (variablized_in_condition false c) (variablized_in_conditions false cs) h))

  own_shift : Shift F HasOwn (λ v. variablized_place 0 variablized (of_own v)) [] []
  own_shift = record {
    constant = λ s d u i. i;
    known = λ v d i. absurd i;
    free = λ v d n. refl;
    fresh = λ v d n i. i;
    apart = λ v u d e n m q. own_same variablized v u (d (of_own v) (inl refl)) (e (of_own u) (inl refl)) q;
  }

  -- a negation of the rule is one that was taken over
  record IsTaken (ds : List Condition) (d : Condition) : Type 0 where
    old : Condition
    among : IsIn old ds
    slots_there : Among (variablized_in_condition false old) (variablized_in_conditions false (all_of ds))
    is : condition_with F old ≡ d

  later_taken : (x : Condition) (ds : List Condition) (d : Condition) → IsTaken ds d → IsTaken (x ∷ ds) d
  later_taken x ds d t = record {
    old = t.old;
    among = inr t.among;
    slots_there = λ y i. in_right y (variablized_in_condition false x) (variablized_in_conditions false (all_of ds)) (t.slots_there y i);
    is = t.is;
  }

  from_all : (ds : List Condition) (d : Condition) → IsIn d (negations_in (conditions_with F (all_of ds))) → IsTaken ds d
  from_all [] d i = absurd i
  from_all (positive p ∷ ds) d i = later_taken (positive p) ds d (from_all ds d i)
  from_all (negated p ∷ ds) d (inl e) =
      record { old = negated p; among = inl refl; slots_there = λ y i. in_left y (variablized_in_condition false (negated p)) (variablized_in_conditions false (all_of ds)) i; is = e }
  from_all (negated p ∷ ds) d (inr i) = later_taken (negated p) ds d (from_all ds d i)
  from_all (conjunctive cs ∷ ds) d (inl e) =
      record { old = conjunctive cs; among = inl refl; slots_there = λ y i. in_left y (variablized_in_condition false (conjunctive cs)) (variablized_in_conditions false (all_of ds)) i; is = e }
  from_all (conjunctive cs ∷ ds) d (inr i) = later_taken (conjunctive cs) ds d (from_all ds d i)

  -- positive conditions of grounds hold no negation
  from_grounds : (placed : List Placed) (first : ℕ) (elements : List Element) (ds : List Condition) (d : Condition) → IsIn d (negations_in (conditions_with F (all_of (conditions_from placed first elements ++ ds))))
      → IsIn d (negations_in (conditions_with F (all_of ds)))
  from_grounds placed first [] ds d i = i
  from_grounds placed first (e ∷ elements) ds d i = from_grounds placed (first + 3) elements ds d i

  slots_behind : (placed : List Placed) (first : ℕ) (elements : List Element) (ds : List Condition) → Among (variablized_in_conditions false (all_of ds)) (variablized_in_conditions false (all_of (conditions_from placed first elements ++ ds)))
  slots_behind placed first [] ds x i = i
  slots_behind placed first (e ∷ elements) ds x i = in_right x _ (variablized_in_conditions false (all_of (conditions_from placed (first + 3) elements ++ ds))) (slots_behind placed (first + 3) elements ds x i)

  taken_stands : (placed : List Placed) (elements : List Element) (ds : List Condition) → Among (variablized_in_conditions false (all_of (conditions_from placed 0 elements ++ ds))) variablized → ((d : Condition) → IsIn d ds → IsReadyNegation d)
      → (d : Condition) → IsIn d (negations_in (conditions_with F (all_of (conditions_from placed 0 elements ++ ds)))) → IsReadyNegation d
  taken_stands placed elements ds covers ready d i =
      let t = from_all ds d (from_grounds placed 0 elements ds d i) in
      let r = ready t.old t.among in (
        subst (StandsReady [] []) t.is
            (stands_shifted F HasOwn (λ v. variablized_place 0 variablized (of_own v)) t.old [] [] [] own_shift (λ a j. absurd j) (condition_own t.old (λ y j. covers y (slots_behind placed 0 elements ds y (t.slots_there y j)))) r.0),
        subst (λ (x : Condition). depth_of x ≤ 8) t.is (subst (λ n. n ≤ 8) (sym (depth_with F t.old)) r.1),
      )

pub justifications_stand : JustificationsStand
unfolding literal_form
justifications_stand words c depth name ready d i =
    let elements = all_grounds (ordered_grounds words c.grounds) in
    let all : List Variablized = variablized_in_conditions false (conditions_of c depth elements) ++ flat_map (variablized_in_wish false) c.results in
    let r = taken_stands (each_variablized_once [] all) (placed_tests elements (carried_tests c depth)) elements (negations_taken_over c depth)
    (λ x j. slot_kept x [] all (in_left x (variablized_in_conditions false (conditions_of c depth elements)) (flat_map (variablized_in_wish false) c.results) j)) (taken_over_ready c depth ready) d i in
    (stands_more d [] [] (bound_variables (literal_form words c depth).production.conditions) (λ v j. absurd j) r.0, r.1)
