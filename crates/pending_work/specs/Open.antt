-- What is outstanding, and what of it may fire by the rule of its number.
use Rattle.std.specs.Prelude.{◌≡◌, Bool, false, ◌&&◌, not, List, Option, Some, None}
use Rattle.soar_wm.specs.declared.element.Element.{Element}
use Rattle.defs_match.specs.Contents.{rule_numbered}
use Rattle.defs_match.specs.Rules.{RuleOf}
use Rattle.defs_match.specs.declared.instance.Instance.{Instance}
use Rattle.defs_soar.specs.declared.goal.Goal.{Goal}
use Rattle.defs_soar.specs.Pending.{Firable, firable_of, is_justification, is_of_operator_kind}
use Rattle.outstanding.specs.Live.{Live}
use Rattle.outstanding.specs.declared.answer.Open.{Open}
use Rattle.outstanding.specs.Outstanding.{unfired, unmatched}

-- of these instances and live firings
pub record IsOpen (instances : List Instance) (live : List Live) (left : Open) : Type 0 where
  pub unfired_are : left.unfired ≡ unfired instances live
  pub unmatched_are : left.unmatched ≡ unmatched instances live

-- ---- whether an instance may fire that no live firing has

abbrev pub can_fire : Bool → List Goal → Firable → Bool
can_fire proposing goals f = not (is_justification f.rule.production.kind) && not (proposing && is_of_operator_kind goals f)

abbrev pub can_fire_by : Bool → List Element → List Goal → Instance → Option RuleOf → Bool
can_fire_by proposing elements goals i None = false
can_fire_by proposing elements goals i (Some rule) = can_fire proposing goals (firable_of elements rule i)

abbrev pub can_fire_now : Bool → List RuleOf → List Element → List Goal → Instance → Bool
can_fire_now proposing rules elements goals i = can_fire_by proposing elements goals i (rule_numbered i.rule rules)
