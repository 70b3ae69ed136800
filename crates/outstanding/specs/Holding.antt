-- What is kept beside a matcher.
use Rattle.std.specs.Prelude.{List}
use Rattle.soar_wm.specs.declared.element.Element.{Element}
use Rattle.soar_wm.specs.WorkingMemory.{IsRising}
use Rattle.defs_match.specs.Conflict.{conflict}
use Rattle.defs_match.specs.Rules.{RuleOf}
use Rattle.conflict_order.specs.Order.{Ordered, RuleLess}
use Rattle.open_instances.specs.Keeping.{Fits}
use Rattle.open_instances.specs.declared.kept.Kept.{Kept}

-- rules and elements are in order, and what is kept is so in their conflict set
pub record Holds (rules : List RuleOf) (elements : List Element) (kept : Kept) : Type 0 where
  pub rules_rise : Ordered RuleLess rules
  pub elements_rise : IsRising elements
  pub fits : Fits (conflict rules elements) kept
