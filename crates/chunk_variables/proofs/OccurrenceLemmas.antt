-- What has a variable, met one after another.
use Rattle.std.proofs.Common.{◌≡◌, ℕ, suc, ◌+◌, ◌<◌, length, get_or, drop, drop-cons, add-one, List, [], ◌∷◌, ◌++◌, cond, refl, sym, ap, ◌∙◌}
use Rattle.std.specs.List.{list_any}
use Rattle.defs_soar.specs.Variablized.{Variablized, each_variablized_once, variablized_eq}

pub once_of_both : (seen xs ys : List Variablized) → each_variablized_once seen (xs ++ ys) ≡ each_variablized_once (each_variablized_once seen xs) ys
once_of_both seen [] ys = refl
once_of_both seen (x ∷ xs) ys = once_of_both (cond (list_any (variablized_eq x) seen) seen (seen ++ x ∷ [])) xs ys

-- one of several, and those after it
pub once_of_next : {A : Type 0} (f : A → List Variablized) (all : List A → List Variablized) → ((x : A) (xs : List A) → all (x ∷ xs) ≡ f x ++ all xs)
    → (seen met : List Variablized) (xs : List A) (i : ℕ) (x : A) → i < length xs → x ≡ get_or xs i x → met ≡ each_variablized_once seen (f x)
    → each_variablized_once met (all (drop (i + 1) xs)) ≡ each_variablized_once seen (all (drop i xs))
once_of_next f all step seen met xs i x within is now =
    let next : drop i xs ≡ x ∷ drop (i + 1) xs = drop-cons xs i x within ∙ ap (λ y. y ∷ drop (suc i) xs) (sym is) ∙ ap (λ n. x ∷ drop n xs) (sym (add-one i)) in
    ap (λ m. each_variablized_once m (all (drop (i + 1) xs))) now
    ∙ sym (ap (λ ys. each_variablized_once seen (all ys)) next ∙ ap (each_variablized_once seen) (step x (drop (i + 1) xs)) ∙ once_of_both seen (f x) (all (drop (i + 1) xs)))
