-- Conditions inside a negation, one after another.
use Rattle.std.proofs.Common.{◌≡◌, sym, ap, ◌∙◌, ℕ, ◌+◌, ◌<◌, Bool, true, ◌&&◌, List, ◌++◌, length, get_or, drop}
use Rattle.soar_rule.specs.declared.cond.Cond.{Cond}
use Rattle.soar_rule.specs.Conditions.{condition, conditions}
use Rattle.defs_match.specs.Testing.{Bindings}
use Rattle.defs_soar.specs.History.{ChainOf}
use Rattle.defs_soar.specs.Negations.{are_about_higher, is_about_higher, values_bound}
use Rattle.chunk_negations.proofs.Lists.{next_of}

-- one condition about higher goals, whose values are known to those after it
pub about_next : (c : ChainOf) (depth : ℕ) (bindings : Bindings) (values given more : List ℕ) (conds : List Cond) (i : ℕ) (x : Cond) (about : Bool) → i < length conds → x ≡ get_or conds i x
    → given ≡ values → about ≡ is_about_higher c depth bindings given (condition x) → about ≡ true → more ≡ values ++ values_bound (condition x)
    → are_about_higher c depth bindings more (conditions (drop (i + 1) conds)) ≡ are_about_higher c depth bindings values (conditions (drop i conds))
about_next c depth bindings values given more conds i x about within is same told higher added =
    let here : is_about_higher c depth bindings values (condition x) ≡ true = ap (λ vs. is_about_higher c depth bindings vs (condition x)) (sym same) ∙ sym told ∙ higher in
    ap (λ vs. are_about_higher c depth bindings vs (conditions (drop (i + 1) conds))) added
    ∙ sym (ap (λ cs. are_about_higher c depth bindings values (conditions cs)) (next_of conds i x within is)
    ∙ ap (λ b. b && are_about_higher c depth bindings (values ++ values_bound (condition x)) (conditions (drop (i + 1) conds))) here)
