-- the loop that reads fields of a path
use Rattle.std.proofs.Common.{sym, ◌∙◌}
use Rattle.tree_parts.proofs.LoopLaws.{begun, pushed, ended, stopped}
use Rattle.soar_tree.proofs.attribute_test.field_path.Goals as goal

pub path-init : goal.path-init
path-init c = begun c.new-path.result c.new-path.ensures c.requires

pub path-preserved : goal.path-preserved
path-preserved c =
    pushed c.path.invariant c.push.new.self c.in-Ok.field c.in-Ok.after.now c.in_ok-push-in-Ok.ensures.ok
    (sym (c.begins_mark.ensures c.args.reader.now) ∙ c.path-test.true) c.in-Ok.ensures.gives c.in-Ok.ensures.known c.in-Ok.ensures.rest

pub returns-in-Err-clause-gives : goal.returns-in-Err-clause-gives
returns-in-Err-clause-gives c = stopped c.path.invariant c.in-Err.stop (sym (c.begins_mark.ensures c.args.reader.now) ∙ c.path-test.true) c.in-Err.ensures.gives

pub returns-clause-gives : goal.returns-clause-gives
returns-clause-gives c = ended c.path.invariant (sym (c.begins_mark.ensures c.args.reader.now) ∙ c.path-test.false)
