-- What the conditions of a rule bound.
use Rattle.std.proofs.Common.{◌≡◌, ◌<◌, ◌+◌, ℕ, List, [], ◌∷◌, ◌++◌, length, drop, get_or, refl, ap, ◌∙◌, add-one, drop-cons, arith}
use Rattle.std.proofs.lemmas.List.{append-nil}
use Rattle.std.specs.Prelude.{if◌then◌else◌}
use Rattle.soar_sym.specs.declared.symbol.Sym.{Sym}
use Rattle.soar_rule.specs.declared.cond.Cond.{Cond}
use Rattle.soar_rule.specs.Conditions.{condition, conditions}
use Rattle.soar_rule.specs.Variables.{bound_by, is_among, plain_outside, with_each}
use Rattle.defs_match.specs.Conflict.{paired}
use Rattle.defs_match.specs.Testing.{Bindings}

pub each_append : (seen xs ys : List ℕ) → with_each seen (xs ++ ys) ≡ with_each (with_each seen xs) ys
each_append seen [] ys = refl
each_append seen (x ∷ xs) ys = each_append (if is_among seen x then seen else seen ++ x ∷ []) xs ys

-- one condition taken
pub next_bound : (seen : List ℕ) (conds : List Cond) (i : ℕ) (c : Cond) → i < length conds → c ≡ get_or conds i c
    → with_each seen (plain_outside (conditions (drop i conds))) ≡ with_each (with_each seen (bound_by (condition c))) (plain_outside (conditions (drop (i + 1) conds)))
next_bound seen conds i c within at =
    ap (λ cs. with_each seen (plain_outside (conditions cs))) (drop-cons conds i c within)
    ∙ rw (← at, add-one i) (each_append seen (bound_by (condition c)) _)

paired_none : (vs : List ℕ) → paired vs [] ≡ []
paired_none [] = refl
paired_none (v ∷ vs) = refl

-- no symbols are left
pub paired_done : (bindings : Bindings) (vs : List ℕ) (left : List Sym) → length left ≡ 0 → bindings ++ paired vs left ≡ bindings
paired_done bindings vs [] h = ap (λ more. bindings ++ more) (paired_none vs) ∙ append-nil bindings
paired_done bindings vs (s ∷ left) h = absurd (omega arith)
