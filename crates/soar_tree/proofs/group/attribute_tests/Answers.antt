-- the loop that reads tests of attributes
use Rattle.std.proofs.Common.{sym, ◌∙◌}
use Rattle.tree_parts.proofs.LoopLaws.{begun, pushed, ended, stopped}
use Rattle.soar_tree.proofs.group.attribute_tests.Goals as goal

pub tests-init : goal.tests-init
tests-init c = begun c.new-tests.result c.new-tests.ensures c.requires

pub tests-preserved : goal.tests-preserved
tests-preserved c =
    pushed c.tests.invariant c.push.new.self c.in-Ok.test c.in-Ok.after.now c.in_ok-push-in-Ok.ensures.ok
    (sym (c.begins_test.ensures c.args.reader.now) ∙ c.tests-test.true) c.in-Ok.ensures.gives c.in-Ok.ensures.known c.in-Ok.ensures.rest

pub returns-in-Err-clause-gives : goal.returns-in-Err-clause-gives
returns-in-Err-clause-gives c = stopped c.tests.invariant c.in-Err.stop (sym (c.begins_test.ensures c.args.reader.now) ∙ c.tests-test.true) c.in-Err.ensures.gives

pub returns-clause-gives : goal.returns-clause-gives
returns-clause-gives c = ended c.tests.invariant (sym (c.begins_test.ensures c.args.reader.now) ∙ c.tests-test.false)
