-- One item more of a list that a loop goes through.
use Rattle.std.proofs.Common.{◌≡◌, ◌<◌, ℕ, ◌+◌, List, ◌∷◌, length, drop, get_or, refl, ◌∙◌, add-one, drop-cons}

-- the item at a place, and those behind it
pub drop_item : {A : Type 0} (xs : List A) (i : ℕ) (x : A) → i < length xs → x ≡ get_or xs i x → drop i xs ≡ x ∷ drop (i + 1) xs
drop_item xs i x within at = drop-cons xs i x within ∙ rw (← at, add-one i) refl
