-- The order in which conditions are matched: again and again the first one that is ready (the order is this engine's).
use Rattle.std.specs.Prelude.{ℕ, suc, Bool, true, false, ◌&&◌, ◌||◌, not, List, [], ◌∷◌, ◌++◌, Option, Some, None, if◌then◌else◌}
use Rattle.std.specs.List.{list_any}
use Rattle.soar_sym.specs.Equality.{mark_eq}
use Rattle.soar_rule.specs.declared.cond.Pattern.{Pattern}
use Rattle.soar_rule.specs.Conditions.{Condition, positive, negated, conjunctive, Conditions, no_more, condition_and, all_of}
use Rattle.soar_rule.specs.Repeat.{repeated}
use Rattle.soar_rule.specs.Variables.{is_among, plain_in, related_in, bound_by, variables_of_pattern, variables_of_conditions, plain_outside}

-- ---- what a condition lacks

abbrev pub or_else : {A : Type 0} → Option A → Option A → Option A
or_else (Some a) later = Some a
or_else None later = later

-- the first variable that is not among the known ones
abbrev pub first_unknown : List ℕ → List ℕ → Option ℕ
first_unknown known [] = None
first_unknown known (v ∷ vs) = if is_among known v then first_unknown known vs else Some v

-- the first variable of a relation that is neither bound nor plain in the same field or an earlier one
abbrev pub missing_in : List ℕ → Pattern → Option ℕ
missing_in bound p =
    let in_id = bound ++ plain_in p.id in
    let in_attr = in_id ++ plain_in p.attr in
    or_else (first_unknown in_id (related_in p.id))
    (or_else (first_unknown in_attr (related_in p.attr)) (first_unknown (in_attr ++ plain_in p.value) (related_in p.value)))

-- it is marked `state`, or its identifier is bound
abbrev pub is_linked : List ℕ → Pattern → Bool
is_linked bound p = p.state || list_any (is_among bound) (plain_in p.id)

-- the first of these variables that is plain outside and not bound yet
abbrev pub waits_for : List ℕ → List ℕ → List ℕ → Option ℕ
waits_for outside bound [] = None
waits_for outside bound (v ∷ vs) = if is_among outside v && not (is_among bound v) then Some v else waits_for outside bound vs

-- ---- the order

-- whether a condition can come next
pub data Readiness : Type 0 where
  is_ready : Condition → Readiness  -- with its inside in match order
  lacks : ℕ → Readiness  -- a variable is not bound yet
  is_unlinked : Readiness  -- its identifier is not bound yet

-- the conditions taken so far with their places, and the variables that they bind
pub record Taken : Type 0 where
  pub places : List ℕ
  pub order : List Condition
  pub bound : List ℕ

abbrev pub nothing_taken : List ℕ → Taken
nothing_taken bound = record { places = []; order = []; bound = bound }

abbrev pub with_condition : ℕ → Condition → Taken → Taken
with_condition place c taken = record { places = place ∷ taken.places; order = taken.order ++ c ∷ []; bound = taken.bound ++ bound_by c }

abbrev pub unless_missing : Option ℕ → Condition → Readiness
unless_missing None c = is_ready c
unless_missing (Some v) c = lacks v

abbrev pub is_positive : Condition → Bool
is_positive (positive p) = true
is_positive (negated p) = false
is_positive (conjunctive inside) = false

abbrev pub count_of : Conditions → ℕ
count_of no_more = 0
count_of (condition_and c cs) = suc (count_of cs)

abbrev mutual
  -- `inside`: in a conjunctive negation, where no identifier need be bound
  pub readiness : Condition → Bool → List ℕ → List ℕ → Readiness
  readiness (positive p) inside outside bound = if inside || is_linked bound p then unless_missing (missing_in bound p) (positive p) else is_unlinked
  readiness (negated p) inside outside bound = unless_missing (or_else (waits_for outside bound (variables_of_pattern p)) (missing_in bound p)) (negated p)
  readiness (conjunctive cs) inside outside bound =
      let taken = repeated (count_of cs) (λ t. one_taken cs true (plain_outside cs) 0 t) (nothing_taken bound) in
      unless_missing (or_else (waits_for outside bound (variables_of_conditions cs)) (or_else (first_lack cs true true (plain_outside cs) 0 taken) (first_lack cs false true (plain_outside cs) 0 taken)))
      (conjunctive (all_of taken.order))

  -- the first condition that is ready is taken
  pub one_taken : Conditions → Bool → List ℕ → ℕ → Taken → Taken
  one_taken no_more inside outside place taken = taken
  one_taken (condition_and c cs) inside outside place taken =
      if is_among taken.places place then one_taken cs inside outside (suc place) taken
      else elim (readiness c inside outside taken.bound) [
        | is_ready d ↦ with_condition place d taken
        | lacks v ↦ one_taken cs inside outside (suc place) taken
        | is_unlinked ↦ one_taken cs inside outside (suc place) taken
      ]

  -- what the first condition left lacks: the first positive one, or the first negation
  pub first_lack : Conditions → Bool → Bool → List ℕ → ℕ → Taken → Option ℕ
  first_lack no_more among_positive inside outside place taken = None
  first_lack (condition_and c cs) among_positive inside outside place taken =
      if is_among taken.places place || not (mark_eq (is_positive c) among_positive) then first_lack cs among_positive inside outside (suc place) taken
      else elim (readiness c inside outside taken.bound) [
        | is_ready d ↦ first_lack cs among_positive inside outside (suc place) taken
        | lacks v ↦ Some v
        | is_unlinked ↦ first_lack cs among_positive inside outside (suc place) taken
      ]

-- as often as there are conditions
unfoldable pub taken_in_order : Conditions → Taken
taken_in_order cs = repeated (count_of cs) (λ t. one_taken cs false (plain_outside cs) 0 t) (nothing_taken [])
