-- What the same conditions in another order keep: sizes, depths, marks of a state and variables.
use Rattle.std.proofs.Common.{◌≡◌, ℕ, suc, ◌+◌, Bool, true, false, ◌||◌, refl, sym, ◌∙◌, ap, arith}
use Rattle.std.specs.Prelude.{max}
use Rattle.soar_rule.specs.Checking.{has_state}
use Rattle.soar_rule.specs.Conditions.{Condition, positive, negated, conjunctive, Conditions, condition_and}
use Rattle.soar_rule.specs.Reordering.{TakenOut, first, later, ReorderedInside, the_same, within, Reordered, nothing, taking}
use Rattle.soar_rule.specs.Sizes.{size_of, size_of_all, depth_of, depth_of_all}
use Rattle.soar_rule.specs.Variables.{is_among, variables_of_condition, variables_of_conditions, bound_by, plain_outside}
use Rattle.soar_rule.proofs.VariableLemmas.{among_joined}

-- ---- what is joined from the conditions, one by one, in whatever order

module _
    (M : Type 0) (join : M → M → M) (swaps : (a b x : M) → join a (join b x) ≡ join b (join a x)) (of_one : Condition → M) (of_all : Conditions → M)
    (joined : (c : Condition) (cs : Conditions) → of_all (condition_and c cs) ≡ join (of_one c) (of_all cs))
    (inside : (cs ds : Conditions) → of_all cs ≡ of_all ds → of_one (conjunctive cs) ≡ of_one (conjunctive ds)) where
  taken_out_joined : {c : Condition} {cs rest : Conditions} → TakenOut c cs rest → of_all cs ≡ join (of_one c) (of_all rest)
  taken_out_joined (first c cs) = joined c cs
  taken_out_joined (later c d cs rest o) =
      joined d cs ∙ ap (join (of_one d)) (taken_out_joined o) ∙ swaps (of_one d) (of_one c) (of_all rest) ∙ ap (join (of_one c)) (sym (joined d rest))

  mutual
    one_kept : {c d : Condition} → ReorderedInside c d → of_one c ≡ of_one d
    one_kept (the_same c) = refl
    one_kept (within cs ds r) = inside cs ds (all_kept r)

    all_kept : {cs ds : Conditions} → Reordered cs ds → of_all cs ≡ of_all ds
    all_kept nothing = refl
    all_kept (taking c d cs rest ds o i r) = taken_out_joined o ∙ ap (λ m. join m (of_all rest)) (one_kept i) ∙ ap (join (of_one d)) (all_kept r) ∙ sym (joined d ds)

-- ---- sizes

pub size_kept : {cs ds : Conditions} → Reordered cs ds → size_of_all cs ≡ size_of_all ds
size_kept r = all_kept ℕ ◌+◌ (λ a b x. omega arith) size_of size_of_all (λ c cs. refl) (λ cs ds e. ap suc e) r

pub depth_kept : {cs ds : Conditions} → Reordered cs ds → depth_of_all cs ≡ depth_of_all ds
depth_kept r = all_kept ℕ max (λ a b x. omega arith) depth_of depth_of_all (λ c cs. refl) (λ cs ds e. ap suc e) r

-- ---- the mark of a state

or_swaps : (a b x : Bool) → a || (b || x) ≡ b || (a || x)
or_swaps true true x = refl
or_swaps true false x = refl
or_swaps false true x = refl
or_swaps false false x = refl

marks_state : Condition → Bool
marks_state (positive p) = p.state
marks_state (negated p) = false
marks_state (conjunctive inside) = false

state_joined : (c : Condition) (cs : Conditions) → has_state (condition_and c cs) ≡ marks_state c || has_state cs
unfolding marks_state
state_joined (positive p) cs = refl
state_joined (negated p) cs = refl
state_joined (conjunctive inside) cs = refl

pub state_kept : {cs ds : Conditions} → Reordered cs ds → has_state cs ≡ has_state ds
unfolding marks_state
state_kept r = all_kept Bool ◌||◌ or_swaps marks_state has_state state_joined (λ cs ds e. refl) r

-- ---- variables

pub plain_kept : {cs ds : Conditions} → Reordered cs ds → (v : ℕ) → is_among (plain_outside cs) v ≡ is_among (plain_outside ds) v
plain_kept r v =
    all_kept Bool ◌||◌ or_swaps (λ c. is_among (bound_by c) v) (λ cs. is_among (plain_outside cs) v) (λ c cs. among_joined (bound_by c) (plain_outside cs) v)
    (λ cs ds e. refl) r

pub variables_kept : {cs ds : Conditions} → Reordered cs ds → (v : ℕ) → is_among (variables_of_conditions cs) v ≡ is_among (variables_of_conditions ds) v
variables_kept r v =
    all_kept Bool ◌||◌ or_swaps (λ c. is_among (variables_of_condition c) v) (λ cs. is_among (variables_of_conditions cs) v)
    (λ c cs. among_joined (variables_of_condition c) (variables_of_conditions cs) v) (λ cs ds e. e) r
