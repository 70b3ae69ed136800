-- What values that hold values, and conditions that hold conditions, are seen as.
use Rattle.std.proofs.Common.{◌≡◌, List, map, sym, ap, ◌∙◌}
use Rattle.soar_rule.specs.declared.action.Func.{Func}
use Rattle.soar_rule.specs.declared.action.Value.{Value}
use Rattle.soar_rule.specs.declared.action.Value.TheFolds.{fold-roll-Value}
use Rattle.soar_rule.specs.declared.action.Value.TheOpen as value_layer
use Rattle.soar_rule.specs.declared.action.Value.TheVariants.{Call, rolls-Call}
use Rattle.soar_rule.specs.declared.cond.Cond.{Cond}
use Rattle.soar_rule.specs.declared.cond.Cond.TheFolds.{fold-roll-Cond}
use Rattle.soar_rule.specs.declared.cond.Cond.TheOpen as cond_layer
use Rattle.soar_rule.specs.declared.cond.Cond.TheVariants.{Conj, rolls-Conj}
use Rattle.soar_rule.specs.Conditions.{Condition, condition, condition_step, conditions, conjunctive}
use Rattle.soar_rule.specs.Productions.{ValueOf, call_value, values_of, value_seen, value_step}

pub call_seen : (f : Func) (vs : List Value) → value_seen (Call f vs) ≡ call_value f (values_of (map value_seen vs))
call_seen f vs = ap value_seen (sym (rolls-Call f vs)) ∙ fold-roll-Value ValueOf value_step (value_layer.Call f vs)

pub conj_seen : (inside : List Cond) → condition (Conj inside) ≡ conjunctive (conditions inside)
conj_seen inside = ap condition (sym (rolls-Conj inside)) ∙ fold-roll-Cond Condition condition_step (cond_layer.Conj inside)
