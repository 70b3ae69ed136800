-- the loop that reads preferences
use Rattle.std.proofs.Common.{sym, ◌∙◌}
use Rattle.tree_parts.proofs.LoopLaws.{begun, pushed, ended, stopped}
use Rattle.tree_parts.proofs.reader.Reader.wishes.Goals as goal

pub wishes-init : goal.wishes-init
wishes-init c = begun c.new-wishes.result c.new-wishes.ensures c.requires

pub wishes-preserved : goal.wishes-preserved
wishes-preserved c =
    pushed c.wishes.invariant c.push.new.self c.in-Ok.wish c.in-Ok.after.now c.in_ok-push-in-Ok.ensures.ok
    (sym (c.begins_wish.ensures c.args.self.now) ∙ c.wishes-test.true) c.in-Ok.ensures.gives c.in-Ok.ensures.known c.in-Ok.ensures.rest

pub returns-in-Err-clause-gives : goal.returns-in-Err-clause-gives
returns-in-Err-clause-gives c = stopped c.wishes.invariant c.in-Err.stop (sym (c.begins_wish.ensures c.args.self.now) ∙ c.wishes-test.true) c.in-Err.ensures.gives

pub returns-clause-gives : goal.returns-clause-gives
returns-clause-gives c = ended c.wishes.invariant (sym (c.begins_wish.ensures c.args.self.now) ∙ c.wishes-test.false)
