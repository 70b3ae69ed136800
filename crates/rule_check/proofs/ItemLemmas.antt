-- One item more of a list that a loop goes through.
use Rattle.std.proofs.Common.{◌≡◌, ◌<◌, ℕ, ◌+◌, true, false, List, [], ◌∷◌, ◌++◌, length, drop, take, ap, sym, get_or, refl, ◌∙◌, add-one, drop-cons}
use Rattle.std.proofs.lemmas.List.{take_more}
use Rattle.std.specs.Prelude.{Option, Some, None, is_some}
use Rattle.soar_rule.specs.MatchOrder.{or_else}

-- the item at a place, and those behind it
pub drop_item : {A : Type 0} (xs : List A) (i : ℕ) (x : A) → i < length xs → x ≡ get_or xs i x → drop i xs ≡ x ∷ drop (i + 1) xs
drop_item xs i x within at = drop-cons xs i x within ∙ rw (← at, add-one i) refl

-- the items before a place, and the one there
pub take_item : {A : Type 0} (xs : List A) (i : ℕ) (x : A) → i < length xs → x ≡ get_or xs i x → take (i + 1) xs ≡ take i xs ++ x ∷ []
take_item xs i x within at = take_more xs i x within ∙ ap (λ y. take i xs ++ y ∷ []) (sym at)

-- ---- the first of two answers

pub first_answers : {A : Type 0} (a b : Option A) → is_some a ≡ true → a ≡ or_else a b
first_answers (Some x) b some = refl
first_answers None b some = cc

pub second_answers : {A : Type 0} (a b : Option A) → is_some a ≡ false → b ≡ or_else a b
second_answers (Some x) b none = cc
second_answers None b none = refl
