-- What the code finds of an explanation, and the forms over it.
use Rattle.std.specs.Prelude.{◌≡◌, ℕ, Bool, List, ◌++◌, map}
use Rattle.soar_sym.specs.Words.{Texts}
use Rattle.soar_rule.specs.Conditions.{Condition, all_of, condition}
use Rattle.soar_rule.specs.declared.production.Kind.{Kind}
use Rattle.soar_wm.specs.declared.element.Element.{Element}
use Rattle.carried_tests.specs.Seen.{carried_seen}
use Rattle.chunk_make.specs.declared.findings.Findings.{Findings}
use Rattle.condition_order.specs.Orders.{ordered_seen}
use Rattle.defs_soar.specs.Candidate.{Form, conditions_from, form_of}
use Rattle.defs_soar.specs.CarriedTests.{Carried, carried_tests, placed_tests}
use Rattle.defs_soar.specs.ConditionOrder.{ordered_grounds}
use Rattle.defs_soar.specs.History.{ChainOf}
use Rattle.defs_soar.specs.Negations.{negations_taken_over}
use Rattle.defs_soar.specs.Outcome.{has_grounds}
use Rattle.defs_soar.specs.Ungrounded.{ungrounded}

pub record AreFindings (words : Texts) (c : ChainOf) (depth : ℕ) (found : Findings) : Type 0 where
  pub grounded_is : found.grounded ≡ has_grounds c
  pub order_is : ordered_seen found.order ≡ ordered_grounds words c.grounds
  pub tests_are : map carried_seen found.tests.items ≡ carried_tests c depth
  pub negations_are : map condition found.negations ≡ negations_taken_over c depth
  pub missing_is : found.missing ≡ ungrounded words c depth

-- with the tests and negations that were found, and these elements as positive conditions
abbrev pub form_over : Bool → Kind → ChainOf → List Carried → List Condition → List Element → Form
form_over general kind c tests negations elements = form_of general kind c (all_of (conditions_from (placed_tests elements tests) 0 elements ++ negations))
