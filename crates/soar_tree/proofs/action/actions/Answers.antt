-- the loop that reads actions
use Rattle.std.proofs.Common.{sym, ◌∙◌}
use Rattle.tree_parts.proofs.LoopLaws.{begun, pushed, ended, stopped}
use Rattle.soar_tree.proofs.action.actions.Goals as goal

pub actions-init : goal.actions-init
actions-init c = begun c.new-actions.result c.new-actions.ensures c.requires

pub actions-preserved : goal.actions-preserved
actions-preserved c =
    pushed c.actions.invariant c.push.new.self c.in-Ok.action c.in-Ok.after.now c.in_ok-push-in-Ok.ensures.ok
    (sym (c.begins_mark.ensures c.args.reader.now) ∙ c.actions-test.true) c.in-Ok.ensures.gives c.in-Ok.ensures.known c.in-Ok.ensures.rest

pub returns-in-Err-clause-gives : goal.returns-in-Err-clause-gives
returns-in-Err-clause-gives c = stopped c.actions.invariant c.in-Err.stop (sym (c.begins_mark.ensures c.args.reader.now) ∙ c.actions-test.true) c.in-Err.ensures.gives

pub returns-clause-gives : goal.returns-clause-gives
returns-clause-gives c = ended c.actions.invariant (sym (c.begins_mark.ensures c.args.reader.now) ∙ c.actions-test.false)
