-- Whether an instance may fire by the rule of its number.
use Rattle.std.specs.Prelude.{Bool, false, List, Option, Some, None}
use Rattle.soar_wm.specs.declared.element.Element.{Element}
use Rattle.defs_match.specs.Contents.{rule_numbered}
use Rattle.defs_match.specs.Rules.{RuleOf}
use Rattle.defs_match.specs.declared.instance.Instance.{Instance}
use Rattle.defs_soar.specs.declared.goal.Goal.{Goal}
use Rattle.defs_soar.specs.Agents.{LiveFiring}
use Rattle.defs_soar.specs.Pending.{firable_of, may_fire}

abbrev pub fires_by : Bool → List Element → List Goal → List LiveFiring → Instance → Option RuleOf → Bool
fires_by proposing elements goals live i None = false
fires_by proposing elements goals live i (Some rule) = may_fire proposing goals live (firable_of elements rule i)

abbrev pub fires_now : Bool → List RuleOf → List Element → List Goal → List LiveFiring → Instance → Bool
fires_now proposing rules elements goals live i = fires_by proposing elements goals live i (rule_numbered i.rule rules)
