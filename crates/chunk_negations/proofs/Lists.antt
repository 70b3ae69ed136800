-- Lists one item at a time.
use Rattle.std.proofs.Common.{◌≡◌, refl, sym, ap, ◌∙◌, ℕ, suc, ◌+◌, ◌<◌, Bool, true, false, ◌&&◌, List, [], ◌∷◌, ◌++◌, length, get_or, drop, drop-cons, add-one}
use Rattle.std.proofs.lemmas.List.{append-nil}

pub with_none : (xs : List ℕ) → xs ++ [] ≡ xs
with_none xs = append-nil xs

pub and_true : (b : Bool) → (b && true) ≡ b
and_true true = refl
and_true false = refl

pub and_false : (b : Bool) → (b && false) ≡ false
and_false true = refl
and_false false = refl

-- the item at a place, and those after it
pub next_of : {A : Type 0} (xs : List A) (i : ℕ) (x : A) → i < length xs → x ≡ get_or xs i x → drop i xs ≡ x ∷ drop (i + 1) xs
next_of xs i x within is = drop-cons xs i x within ∙ ap (λ y. y ∷ drop (suc i) xs) (sym is) ∙ ap (λ n. x ∷ drop n xs) (sym (add-one i))

-- what one item gives joins what the items before it gave
pub joined_next : {A B S : Type 0} (join : S → List B → S) → ((s : S) (xs ys : List B) → join s (xs ++ ys) ≡ join (join s xs) ys)
    → (one : A → List B) (all : List A → List B) → ((x : A) (xs : List A) → all (x ∷ xs) ≡ one x ++ all xs)
    → (before after : S) (xs : List A) (i : ℕ) (x : A) → i < length xs → x ≡ get_or xs i x → after ≡ join before (one x)
    → join after (all (drop (i + 1) xs)) ≡ join before (all (drop i xs))
joined_next join both one all step before after xs i x within is now =
    ap (λ s. join s (all (drop (i + 1) xs))) now
    ∙ sym (ap (λ ys. join before (all ys)) (next_of xs i x within is) ∙ ap (join before) (step x (drop (i + 1) xs)) ∙ both before (one x) (all (drop (i + 1) xs)))
