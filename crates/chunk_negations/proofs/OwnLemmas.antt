-- Variables of negations, numbered one negation after another.
use Rattle.std.proofs.Common.{◌≡◌, sym, ap, ap₂, ◌∙◌, ℕ, ◌+◌, ◌<◌, List, [], ◌∷◌, ◌++◌, length, get_or, drop, map, append_assoc}
use Rattle.soar_rule.specs.declared.cond.Cond.{Cond}
use Rattle.soar_rule.specs.Conditions.{Condition, condition}
use Rattle.defs_soar.specs.Negations.{own_count, with_own_from, with_own_variables}
use Rattle.chunk_negations.proofs.Lists.{next_of}

-- one negation more
pub own_next : (before after : List Condition) (negations : List Cond) (i first next : ℕ) (x : Cond) → i < length negations → x ≡ get_or negations i x
    → after ≡ before ++ with_own_from first (condition x) ∷ [] → next ≡ first + own_count (condition x)
    → after ++ with_own_variables next (map condition (drop (i + 1) negations)) ≡ before ++ with_own_variables first (map condition (drop i negations))
own_next before after negations i first next x within is added counted =
    ap₂ (λ ds n. ds ++ with_own_variables n (map condition (drop (i + 1) negations))) added counted
    ∙ append_assoc before (with_own_from first (condition x) ∷ []) (with_own_variables (first + own_count (condition x)) (map condition (drop (i + 1) negations)))
    ∙ ap (λ ns. before ++ with_own_variables first (map condition ns)) (sym (next_of negations i x within is))
