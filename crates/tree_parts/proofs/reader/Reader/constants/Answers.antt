-- the loop that reads constants
use Rattle.std.proofs.Common.{sym, ◌∙◌}
use Rattle.tree_parts.proofs.LoopLaws.{begun, pushed, ended, stopped}
use Rattle.tree_parts.proofs.reader.Reader.constants.Goals as goal

pub constants-init : goal.constants-init
constants-init c = begun c.new-constants.result c.new-constants.ensures c.requires

pub constants-preserved : goal.constants-preserved
constants-preserved c =
    pushed c.constants.invariant c.push.new.self c.in-Ok.constant c.in-Ok.after.now c.in_ok-push-in-Ok.ensures.ok
    (sym (c.begins_constant.ensures c.args.self.now) ∙ c.constants-test.true) c.in-Ok.ensures.gives c.in-Ok.ensures.known c.in-Ok.ensures.rest

pub returns-in-Err-clause-gives : goal.returns-in-Err-clause-gives
returns-in-Err-clause-gives c = stopped c.constants.invariant c.in-Err.stop (sym (c.begins_constant.ensures c.args.self.now) ∙ c.constants-test.true) c.in-Err.ensures.gives

pub returns-clause-gives : goal.returns-clause-gives
returns-clause-gives c = ended c.constants.invariant (sym (c.begins_constant.ensures c.args.self.now) ∙ c.constants-test.false)
