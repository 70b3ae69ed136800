-- the loop that reads values with their preferences
use Rattle.std.proofs.Common.{sym, ◌∙◌}
use Rattle.tree_parts.proofs.LoopLaws.{begun, pushed, ended, stopped}
use Rattle.tree_parts.proofs.reader.Reader.items.Goals as goal

pub items-init : goal.items-init
items-init c = begun c.new-items.result c.new-items.ensures c.requires

pub items-preserved : goal.items-preserved
items-preserved c =
    pushed c.items.invariant c.push.new.self c.in-Ok.item c.in-Ok.after.now c.in_ok-push-in-Ok.ensures.ok
    (sym (c.begins_term.ensures c.args.self.now) ∙ c.items-test.true) c.in-Ok.ensures.gives c.in-Ok.ensures.known c.in-Ok.ensures.rest

pub returns-in-Err-clause-gives : goal.returns-in-Err-clause-gives
returns-in-Err-clause-gives c = stopped c.items.invariant c.in-Err.stop (sym (c.begins_term.ensures c.args.self.now) ∙ c.items-test.true) c.in-Err.ensures.gives

pub returns-clause-gives : goal.returns-clause-gives
returns-clause-gives c = ended c.items.invariant (sym (c.begins_term.ensures c.args.self.now) ∙ c.items-test.false)
