-- The least depth, found from the front.
use Rattle.std.proofs.Common.{◌≡◌, ℕ, min, List, [], ◌∷◌, ◌++◌, Option, Some, None, unwrap_or, refl, ◌∙◌, ap, arith}
use Rattle.defs_soar.specs.Pending.{least}
use Rattle.pending_work.specs.Active.{lesser, least_from}

least_append : (found : Option ℕ) (ms ns : List ℕ) → least_from (least_from found ms) ns ≡ least_from found (ms ++ ns)
least_append found [] ns = refl
least_append found (m ∷ ms) ns = least_append (Some (lesser found m)) ms ns

first_two : (m n : ℕ) (ns : List ℕ) → least (min m n ∷ ns) ≡ min m (least (n ∷ ns))
first_two m n [] = refl
first_two m n (k ∷ ns) = omega arith

least_some : (m : ℕ) (ns : List ℕ) → least_from (Some m) ns ≡ Some (least (m ∷ ns))
least_some m [] = refl
least_some m (n ∷ ns) = least_some (min m n) ns ∙ ap Some (first_two m n ns)

least_none : (ns : List ℕ) → unwrap_or (least_from None ns) 0 ≡ least ns
least_none [] = refl
least_none (n ∷ ns) = ap (λ found. unwrap_or found 0) (least_some n ns)

pub least_of_both : (ms ns : List ℕ) → unwrap_or (least_from (least_from None ms) ns) 0 ≡ least (ms ++ ns)
least_of_both ms ns = ap (λ found. unwrap_or found 0) (least_append None ms ns) ∙ least_none (ms ++ ns)
