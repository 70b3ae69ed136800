-- What binds a matcher to the parts of an agent.
use Rattle.std.specs.Prelude.{◌≡◌, Bool, false, List, map}
use Rattle.soar_wm.specs.declared.element.Element.{Element}
use Rattle.defs_match.specs.Rules.{RuleOf, rule_seen}
use Rattle.live_firings.specs.declared.live.Live.{Live}
use Rattle.decision_parts.specs.Parts.{Parts as PartsKept}

-- it works, holds the rules and working memory, and knows the live firings that were told
pub record Bond (rules : List RuleOf) (elements : List Element) (failed : Bool) (knows : List Live → Type 0) (a : PartsKept) : Type 0 where
  pub works : failed ≡ false
  pub rules_are : rules ≡ map rule_seen a.rules
  pub elements_are : elements ≡ a.memory.elements
  pub known : knows a.live.told
