-- What negations wait for.
use Rattle.std.proofs.Common.{◌≡◌, ℕ, ◌<◌, ◌+◌, length, drop, get_or, ◌&&◌, not, Bool, true, false, List, [], ◌∷◌, ◌++◌, refl, ap, ◌∙◌}
use Rattle.std.specs.Prelude.{Some, if◌then◌else◌}
use Rattle.soar_rule.specs.declared.cond.Cond.{Cond}
use Rattle.soar_rule.specs.Conditions.{condition, conditions}
use Rattle.soar_rule.specs.MatchOrder.{or_else, waits_for}
use Rattle.soar_rule.specs.Variables.{is_among, variables_of_condition, variables_of_conditions}
use Rattle.rule_check.proofs.ItemLemmas.{drop_item}

pub waits_joined : (outside bound vs ws : List ℕ) → waits_for outside bound (vs ++ ws) ≡ or_else (waits_for outside bound vs) (waits_for outside bound ws)
waits_joined outside bound [] ws = refl
waits_joined outside bound (v ∷ vs) ws = by (is_among outside v && not (is_among bound v)) (waits_joined outside bound vs ws)
  where
    by : (awaited : Bool) → waits_for outside bound (vs ++ ws) ≡ or_else (waits_for outside bound vs) (waits_for outside bound ws)
        → (if awaited then Some v else waits_for outside bound (vs ++ ws)) ≡ or_else (if awaited then Some v else waits_for outside bound vs) (waits_for outside bound ws)
    by true rest = refl
    by false rest = rest

-- the condition at a place, and those behind it
pub waits_item : (outside bound : List ℕ) (conds : List Cond) (i : ℕ) (c : Cond) → i < length conds → c ≡ get_or conds i c
    → waits_for outside bound (variables_of_conditions (conditions (drop i conds)))
    ≡ or_else (waits_for outside bound (variables_of_condition (condition c))) (waits_for outside bound (variables_of_conditions (conditions (drop (i + 1) conds))))
waits_item outside bound conds i c within at =
    ap (λ cs. waits_for outside bound (variables_of_conditions (conditions cs))) (drop_item conds i c within at)
    ∙ waits_joined outside bound (variables_of_condition (condition c)) (variables_of_conditions (conditions (drop (i + 1) conds)))
