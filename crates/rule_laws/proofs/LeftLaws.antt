-- The conditions that are left: those whose places are not taken.
use Rattle.std.proofs.Common.{◌≡◌, ◌<◌, ℕ, suc, Bool, true, false, ◌||◌, ◌==◌, List, [], ◌∷◌, refl, sym, ◌∙◌, ap, arith}
use Rattle.std.specs.Prelude.{if◌then◌else◌}
use Rattle.std.proofs.lemmas.Bool.Decides.{nat_tests}
use Rattle.soar_rule.specs.Conditions.{Condition, Conditions, no_more, condition_and}
use Rattle.soar_rule.specs.Variables.{is_among}

-- the conditions, from a place on, whose places are not among these
abbrev pub left_of : Conditions → ℕ → List ℕ → Conditions
left_of no_more place places = no_more
left_of (condition_and c cs) place places = if is_among places place then left_of cs (suc place) places else condition_and c (left_of cs (suc place) places)

pub left_on :
    (c : Condition) (cs : Conditions) (place : ℕ) (places : List ℕ) → is_among places place ≡ true →
    left_of (condition_and c cs) place places ≡ left_of cs (suc place) places
left_on c cs place places e = cc

pub left_here :
    (c : Condition) (cs : Conditions) (place : ℕ) (places : List ℕ) → is_among places place ≡ false →
    left_of (condition_and c cs) place places ≡ condition_and c (left_of cs (suc place) places)
left_here c cs place places e = cc

-- another place is nothing to this one
among_before : (k place : ℕ) (places : List ℕ) → k < place → is_among (k ∷ places) place ≡ is_among places place
among_before k place places h = ap (λ b. b || is_among places place) differ
  where
    differ : (place == k) ≡ false
    differ = grind (arith, nat_tests)

pub among_after : (k place : ℕ) (places : List ℕ) → place < k → is_among (k ∷ places) place ≡ is_among places place
among_after k place places h = ap (λ b. b || is_among places place) differ
  where
    differ : (place == k) ≡ false
    differ = grind (arith, nat_tests)

pub among_more : (k place : ℕ) (places : List ℕ) → is_among places place ≡ true → is_among (k ∷ places) place ≡ true
among_more k place places e = grind arith

pub among_this : (place : ℕ) (places : List ℕ) → is_among (place ∷ places) place ≡ true
among_this place places = grind (arith, nat_tests)

-- an earlier place is nothing to what is left from here on
pub left_after : (cs : Conditions) (k place : ℕ) (places : List ℕ) → k < place → left_of cs place (k ∷ places) ≡ left_of cs place places
left_after no_more k place places h = refl
left_after (condition_and c cs) k place places h = by (is_among places place) refl (left_after cs k (suc place) places (omega arith))
  where
    by : (b : Bool) → is_among places place ≡ b → left_of cs (suc place) (k ∷ places) ≡ left_of cs (suc place) places →
        left_of (condition_and c cs) place (k ∷ places) ≡ left_of (condition_and c cs) place places
    by true e i = left_on c cs place (k ∷ places) (among_before k place places h ∙ e) ∙ i ∙ sym (left_on c cs place places e)
    by false e i = left_here c cs place (k ∷ places) (among_before k place places h ∙ e) ∙ ap (condition_and c) i ∙ sym (left_here c cs place places e)

-- with no place taken all are left
pub left_all : (cs : Conditions) (place : ℕ) → left_of cs place [] ≡ cs
left_all no_more place = refl
left_all (condition_and c cs) place = ap (condition_and c) (left_all cs (suc place))
