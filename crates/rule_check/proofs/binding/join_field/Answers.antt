use Rattle.std.proofs.Common.{subst, ◌∙◌, take, flat_map}
use Rattle.std.proofs.lemmas.List.{take_all}
use Rattle.soar_rule.specs.Variables.{plain_in_test}
use Rattle.rule_check.specs.Marking.{Joined}
use Rattle.rule_check.proofs.BindingLemmas.{joined_then, plain_item}
use Rattle.rule_check.proofs.binding.join_field.Goals as goal

pub tests-preserved : goal.tests-preserved
tests-preserved c =
    subst (Joined c.args.marks.now.marks c.join_test.new.marks.marks) (plain_item c.as_slice-test-items.result.now c.tests.test-index c.test-item.result c.tests-test.true c.test-item.is)
    (joined_then c.args.marks.now.marks c.tests.marks.marks c.join_test.new.marks.marks (flat_map plain_in_test (take c.tests.test-index c.as_slice-test-items.result.now)) (plain_in_test c.test-item.result) c.tests.invariant c.in_ok-join_test.ensures)

pub returns : goal.returns
returns c =
    subst (λ tests. Joined c.args.marks.now.marks c.tests.marks.marks (flat_map plain_in_test tests))
    (take_all c.tests.test-index c.as_slice-test-items.result.now c.tests-test.false ∙ c.as_slice-test-items.ensures)
    c.tests.invariant
