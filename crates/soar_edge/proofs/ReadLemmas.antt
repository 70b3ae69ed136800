-- What is read of a reader up to a limit.
use Rattle.std.proofs.Common.{◌≡◌, ℕ, ◌<◌, arith, List, [], ◌++◌, length, take, min, Option, Some, None, IfSome, option_map, ap, subst, ◌∙◌}
use Rattle.std.proofs.lemmas.List.{length-take, take_all}

-- what stops before the limit is all
pub below_limit : (limit : ℕ) (left : List ℕ) → length (take limit left) < limit → take limit left ≡ left
below_limit limit left short =
    let size : length (take limit left) ≡ min limit (length left) = length-take limit left in
    take_all limit left (omega arith)

pub all_left : (limit : ℕ) (known : Option (List ℕ)) (before got : List ℕ) → before ≡ [] → IfSome (option_map (take limit) known) (λ bytes. got ≡ before ++ bytes) → length got < limit → IfSome known (λ left. got ≡ left)
all_left limit None before got empty read short = tt
all_left limit (Some left) before got empty read short =
    let same : got ≡ take limit left = read ∙ ap (λ front. front ++ take limit left) empty in
    same ∙ below_limit limit left (subst (λ bytes. length bytes < limit) same short)
