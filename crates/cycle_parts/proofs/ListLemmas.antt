-- One item less of a list that a loop goes through.
use Rattle.std.proofs.Common.{◌≡◌, ℕ, zero, suc, ◌<◌, Bool, false, cond, List, [], ◌∷◌, ◌++◌, length, map, filter, take, drop, remove, get_or, sym, ap, ◌∙◌, arith}

-- an item that a filter leaves out, taken away
pub removed_next : {A B : Type 0} (f : A → B) (p : B → Bool) (xs : List A) (i : ℕ) (x : A) → i < length xs → x ≡ get_or xs i x → p (f x) ≡ false
    → map f (take i (remove xs i)) ++ filter p (map f (drop i (remove xs i))) ≡ map f (take i xs) ++ filter p (map f (drop i xs))
removed_next f p [] i x within at out = absurd (omega arith)
removed_next f p (y ∷ ys) zero x within at out =
    let passes : p (f y) ≡ false = ap (λ z. p (f z)) (sym at) ∙ out in
    sym (ap (λ b. cond b (f y ∷ filter p (map f ys)) (filter p (map f ys))) passes)
removed_next f p (y ∷ ys) (suc i) x within at out = ap (λ rest. f y ∷ rest) (removed_next f p ys i x (omega arith) at out)
