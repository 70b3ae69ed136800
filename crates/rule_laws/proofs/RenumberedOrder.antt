-- Where two variables never get one number, renumbered conditions are taken in the same order.
use Rattle.std.specs.Prelude.{map, if◌then◌else◌, option_map}
use Rattle.std.specs.List.{list_any}
use Rattle.std.proofs.Common.{◌≡◌, ℕ, zero, suc, Bool, true, false, ◌||◌, not, List, [], ◌∷◌, ◌++◌, Option, Some, None, refl, sym, ◌∙◌, ap, ap₂}
use Rattle.std.proofs.lemmas.List.{map-append}
use Rattle.soar_sym.specs.Equality.{mark_eq}
use Rattle.soar_rule.specs.declared.cond.Pattern.{Pattern}
use Rattle.soar_rule.specs.Alike.{variable_with}
use Rattle.soar_rule.specs.Conditions.{Condition, positive, negated, conjunctive, Conditions, no_more, condition_and, all_of}
use Rattle.soar_rule.specs.MatchOrder.{or_else, first_unknown, missing_in, is_linked, waits_for, Readiness, is_ready, lacks, is_unlinked, Taken, nothing_taken, with_condition, unless_missing, is_positive, count_of, readiness, one_taken, first_lack, taken_in_order}
use Rattle.soar_rule.specs.Renaming.{field_with, pattern_with, condition_with, conditions_with}
use Rattle.soar_rule.specs.Repeat.{repeated}
use Rattle.soar_rule.specs.Variables.{is_among, plain_in, related_in, bound_by, variables_of_pattern, variables_of_conditions, plain_outside}
use Rattle.rule_laws.proofs.RenumberedLists.{either_of, any_among_again, unknown_again, waits_again}
use Rattle.rule_laws.proofs.RenumberedVariables.{plain_variables, related_variables, pattern_variables, conditions_variables, bound_variables, outside_variables}

-- a step that a view follows, so many times
pub repeated_again : {A B : Type 0} (n : ℕ) (view : A → B) (step : A → A) (other : B → B) → ((a : A) → other (view a) ≡ view (step a))
    → (a : A) → repeated n other (view a) ≡ view (repeated n step a)
repeated_again zero view step other same a = refl
repeated_again (suc n) view step other same a = ap (repeated n other) (same a) ∙ repeated_again n view step other same (step a)

module _ (g : ℕ → ℕ) (apart : (v w : ℕ) → g v ≡ g w → v ≡ w) where
  -- ---- what is renumbered

  abbrev readiness_with : Readiness → Readiness
  readiness_with (is_ready c) = is_ready (condition_with (variable_with g) c)
  readiness_with (lacks v) = lacks (g v)
  readiness_with is_unlinked = is_unlinked

  abbrev pub taken_with : Taken → Taken
  taken_with taken = record { places = taken.places; order = map (condition_with (variable_with g)) taken.order; bound = map g taken.bound }

  pub all_again : (cs : List Condition) → all_of (map (condition_with (variable_with g)) cs) ≡ conditions_with (variable_with g) (all_of cs)
  all_again [] = refl
  all_again (c ∷ cs) = ap (condition_and (condition_with (variable_with g) c)) (all_again cs)

  count_again : (cs : Conditions) → count_of (conditions_with (variable_with g) cs) ≡ count_of cs
  count_again no_more = refl
  count_again (condition_and c cs) = ap suc (count_again cs)

  positive_again : (c : Condition) → is_positive (condition_with (variable_with g) c) ≡ is_positive c
  positive_again (positive p) = refl
  positive_again (negated p) = refl
  positive_again (conjunctive inside) = refl

  condition_joined : (place : ℕ) (c : Condition) (taken : Taken) → with_condition place (condition_with (variable_with g) c) (taken_with taken) ≡ taken_with (with_condition place c taken)
  condition_joined place c taken =
      let order = sym (map-append (condition_with (variable_with g)) taken.order (c ∷ [])) in
      let bound = ap (λ vs. map g taken.bound ++ vs) (bound_variables g c) ∙ sym (map-append g taken.bound (bound_by c)) in
      λ i. record { places = place ∷ taken.places; order = order i; bound = bound i }

  -- ---- what a condition lacks

  bound_joined : (known : List ℕ) (xs vs : List ℕ) → xs ≡ map g vs → map g known ++ xs ≡ map g (known ++ vs)
  bound_joined known xs vs e = ap (λ l. map g known ++ l) e ∙ sym (map-append g known vs)

  pub missing_again : (bound : List ℕ) (p : Pattern) → missing_in (map g bound) (pattern_with (variable_with g) p) ≡ option_map g (missing_in bound p)
  missing_again bound p =
      let in_id : List ℕ = bound ++ plain_in p.id in
      let in_attr : List ℕ = in_id ++ plain_in p.attr in
      let in_value : List ℕ = in_attr ++ plain_in p.value in
      let id = bound_joined bound (plain_in (field_with (variable_with g) p.id)) (plain_in p.id) (plain_variables g p.id) in
      let attr = ap (λ l. l ++ plain_in (field_with (variable_with g) p.attr)) id ∙ bound_joined in_id (plain_in (field_with (variable_with g) p.attr)) (plain_in p.attr) (plain_variables g p.attr) in
      let value = ap (λ l. l ++ plain_in (field_with (variable_with g) p.value)) attr ∙ bound_joined in_attr (plain_in (field_with (variable_with g) p.value)) (plain_in p.value) (plain_variables g p.value) in
      let first = ap₂ first_unknown id (related_variables g p.id) ∙ unknown_again g apart in_id (related_in p.id) in
      let second = ap₂ first_unknown attr (related_variables g p.attr) ∙ unknown_again g apart in_attr (related_in p.attr) in
      let third = ap₂ first_unknown value (related_variables g p.value) ∙ unknown_again g apart in_value (related_in p.value) in
      ap₂ (λ (a b : Option ℕ). or_else a b) first
      (ap₂ (λ (a b : Option ℕ). or_else a b) second third ∙ either_of g (first_unknown in_attr (related_in p.attr)) (first_unknown in_value (related_in p.value)))
      ∙ either_of g (first_unknown in_id (related_in p.id)) (or_else (first_unknown in_attr (related_in p.attr)) (first_unknown in_value (related_in p.value)))

  pub linked_again : (bound : List ℕ) (p : Pattern) → is_linked (map g bound) (pattern_with (variable_with g) p) ≡ is_linked bound p
  linked_again bound p = ap (λ b. p.state || b) (ap (list_any (is_among (map g bound))) (plain_variables g p.id) ∙ any_among_again g apart bound (plain_in p.id))

  unless_again : (missing : Option ℕ) (c : Condition) → unless_missing (option_map g missing) (condition_with (variable_with g) c) ≡ readiness_with (unless_missing missing c)
  unless_again None c = refl
  unless_again (Some v) c = refl

  -- ---- the order

  abbrev ready_or_unlinked : Bool → Readiness → Readiness
  ready_or_unlinked b r = if b then r else is_unlinked

  either_ready : (b : Bool) (r : Readiness) → ready_or_unlinked b (readiness_with r) ≡ readiness_with (ready_or_unlinked b r)
  either_ready true r = refl
  either_ready false r = refl

  positive_ready : (p : Pattern) (inside : Bool) (outside bound : List ℕ)
      → readiness (condition_with (variable_with g) (positive p)) inside (map g outside) (map g bound) ≡ readiness_with (readiness (positive p) inside outside bound)
  positive_ready p inside outside bound =
      ap₂ ready_or_unlinked (ap (λ b. inside || b) (linked_again bound p))
      (ap (λ m. unless_missing m (positive (pattern_with (variable_with g) p))) (missing_again bound p) ∙ unless_again (missing_in bound p) (positive p))
      ∙ either_ready (inside || is_linked bound p) (unless_missing (missing_in bound p) (positive p))

  negated_ready : (p : Pattern) (inside : Bool) (outside bound : List ℕ)
      → readiness (condition_with (variable_with g) (negated p)) inside (map g outside) (map g bound) ≡ readiness_with (readiness (negated p) inside outside bound)
  negated_ready p inside outside bound =
      ap (λ m. unless_missing m (negated (pattern_with (variable_with g) p)))
      (ap₂ (λ (a b : Option ℕ). or_else a b) (ap (waits_for (map g outside) (map g bound)) (pattern_variables g p) ∙ waits_again g apart outside bound (variables_of_pattern p)) (missing_again bound p)
      ∙ either_of g (waits_for outside bound (variables_of_pattern p)) (missing_in bound p))
      ∙ unless_again (or_else (waits_for outside bound (variables_of_pattern p)) (missing_in bound p)) (negated p)

  -- what is taken, by how ready the condition at this place is
  abbrev taken_by : Readiness → ℕ → Taken → Taken → Taken
  taken_by r place taken later = elim r [ is_ready d ↦ with_condition place d taken | lacks v ↦ later | is_unlinked ↦ later ]

  by_readiness : (r : Readiness) (place : ℕ) (taken later : Taken) → taken_by (readiness_with r) place (taken_with taken) (taken_with later) ≡ taken_with (taken_by r place taken later)
  by_readiness (is_ready d) place taken later = condition_joined place d taken
  by_readiness (lacks v) place taken later = refl
  by_readiness is_unlinked place taken later = refl

  by_place : (b : Bool) (later here : Taken) (x y : Taken) → x ≡ taken_with later → y ≡ taken_with here → (if b then x else y) ≡ taken_with (if b then later else here)
  by_place true later here x y e f = e
  by_place false later here x y e f = f

  -- what is lacking, by how ready the condition at this place is
  abbrev lack_by : Readiness → Option ℕ → Option ℕ
  lack_by r later = elim r [ is_ready d ↦ later | lacks v ↦ Some v | is_unlinked ↦ later ]

  lack_by_readiness : (r : Readiness) (later : Option ℕ) → lack_by (readiness_with r) (option_map g later) ≡ option_map g (lack_by r later)
  lack_by_readiness (is_ready d) later = refl
  lack_by_readiness (lacks v) later = refl
  lack_by_readiness is_unlinked later = refl

  lack_by_place : (b : Bool) (later here : Option ℕ) (x y : Option ℕ) → x ≡ option_map g later → y ≡ option_map g here → (if b then x else y) ≡ option_map g (if b then later else here)
  lack_by_place true later here x y e f = e
  lack_by_place false later here x y e f = f

  abbrev all_taken : Conditions → List ℕ → ℕ → Taken → Taken
  all_taken cs vs n taken = repeated n (λ t. one_taken cs true vs 0 t) taken

  -- a conjunctive negation, where these of its conditions were taken
  abbrev inside_ready : Conditions → List ℕ → List ℕ → List ℕ → Taken → Readiness
  inside_ready cs vs outside bound taken =
      unless_missing (or_else (waits_for outside bound (variables_of_conditions cs)) (or_else (first_lack cs true true vs 0 taken) (first_lack cs false true vs 0 taken))) (conjunctive (all_of taken.order))

  mutual
    ready_again : (c : Condition) (inside : Bool) (outside bound : List ℕ)
        → readiness (condition_with (variable_with g) c) inside (map g outside) (map g bound) ≡ readiness_with (readiness c inside outside bound)
    ready_again (positive p) inside outside bound = positive_ready p inside outside bound
    ready_again (negated p) inside outside bound = negated_ready p inside outside bound
    ready_again (conjunctive cs) inside outside bound =
        let r : Conditions = conditions_with (variable_with g) cs in
        let vs : List ℕ = plain_outside cs in
        let taken : Taken = all_taken cs vs (count_of cs) (nothing_taken bound) in
        let waits : Option ℕ = waits_for outside bound (variables_of_conditions cs) in
        let lack : Option ℕ = first_lack cs true true vs 0 taken in
        let negation : Option ℕ = first_lack cs false true vs 0 taken in
        let taken_again = repeated_again (count_of cs) taken_with (λ t. one_taken cs true vs 0 t) (λ t. one_taken r true (map g vs) 0 t) (λ t. one_again cs true vs 0 t) (nothing_taken bound) in
        let waits_too = ap (waits_for (map g outside) (map g bound)) (conditions_variables g cs) ∙ waits_again g apart outside bound (variables_of_conditions cs) in
        let lacks_too = ap₂ (λ (a b : Option ℕ). or_else a b) (lack_again cs true true vs 0 taken) (lack_again cs false true vs 0 taken) ∙ either_of g lack negation in
        ap₂ (λ us n. inside_ready r us (map g outside) (map g bound) (all_taken r us n (nothing_taken (map g bound)))) (outside_variables g cs) (count_again cs)
        ∙ ap (inside_ready r (map g vs) (map g outside) (map g bound)) taken_again
        ∙ ap₂ unless_missing (ap₂ (λ (a b : Option ℕ). or_else a b) waits_too lacks_too ∙ either_of g waits (or_else lack negation)) (ap conjunctive (all_again taken.order))
        ∙ unless_again (or_else waits (or_else lack negation)) (conjunctive (all_of taken.order))

    pub one_again : (cs : Conditions) (inside : Bool) (outside : List ℕ) (place : ℕ) (taken : Taken)
        → one_taken (conditions_with (variable_with g) cs) inside (map g outside) place (taken_with taken) ≡ taken_with (one_taken cs inside outside place taken)
    one_again no_more inside outside place taken = refl
    one_again (condition_and c cs) inside outside place taken =
        let later : Taken = one_taken cs inside outside (suc place) taken in
        let other_later : Taken = one_taken (conditions_with (variable_with g) cs) inside (map g outside) (suc place) (taken_with taken) in
        let other_ready : Readiness = readiness (condition_with (variable_with g) c) inside (map g outside) (map g taken.bound) in
        let ready : Readiness = readiness c inside outside taken.bound in
        let later_again = one_again cs inside outside (suc place) taken in
        by_place (is_among taken.places place) later (taken_by ready place taken later) other_later (taken_by other_ready place (taken_with taken) other_later) later_again
        (ap₂ (λ r l. taken_by r place (taken_with taken) l) (ready_again c inside outside taken.bound) later_again ∙ by_readiness ready place taken later)

    pub lack_again : (cs : Conditions) (among_positive inside : Bool) (outside : List ℕ) (place : ℕ) (taken : Taken)
        → first_lack (conditions_with (variable_with g) cs) among_positive inside (map g outside) place (taken_with taken)
        ≡ option_map g (first_lack cs among_positive inside outside place taken)
    lack_again no_more among_positive inside outside place taken = refl
    lack_again (condition_and c cs) among_positive inside outside place taken =
        let passed : Bool → Bool = λ positive. is_among taken.places place || not (mark_eq positive among_positive) in
        let later : Option ℕ = first_lack cs among_positive inside outside (suc place) taken in
        let other_later : Option ℕ = first_lack (conditions_with (variable_with g) cs) among_positive inside (map g outside) (suc place) (taken_with taken) in
        let other_ready : Readiness = readiness (condition_with (variable_with g) c) inside (map g outside) (map g taken.bound) in
        let ready : Readiness = readiness c inside outside taken.bound in
        let later_again = lack_again cs among_positive inside outside (suc place) taken in
        ap (λ positive. if passed positive then other_later else lack_by other_ready other_later) (positive_again c)
        ∙ lack_by_place (passed (is_positive c)) later (lack_by ready later) other_later (lack_by other_ready other_later) later_again
        (ap₂ lack_by (ready_again c inside outside taken.bound) later_again ∙ lack_by_readiness ready later)

  pub order_again : (cs : Conditions) → taken_in_order (conditions_with (variable_with g) cs) ≡ taken_with (taken_in_order cs)
  unfolding taken_in_order
  order_again cs =
      ap₂ (λ n vs. repeated n (λ t. one_taken (conditions_with (variable_with g) cs) false vs 0 t) (nothing_taken [])) (count_again cs) (outside_variables g cs)
      ∙ repeated_again (count_of cs) taken_with (λ t. one_taken cs false (plain_outside cs) 0 t) (λ t. one_taken (conditions_with (variable_with g) cs) false (map g (plain_outside cs)) 0 t)
      (λ t. one_again cs false (plain_outside cs) 0 t) (nothing_taken [])
