-- the loop that reads tests
use Rattle.std.proofs.Common.{sym, ◌∙◌}
use Rattle.tree_parts.proofs.LoopLaws.{begun, pushed, ended, stopped}
use Rattle.tree_parts.proofs.reader.Reader.simples.Goals as goal

pub simples-init : goal.simples-init
simples-init c = begun c.new-simples.result c.new-simples.ensures c.requires

pub simples-preserved : goal.simples-preserved
simples-preserved c =
    pushed c.simples.invariant c.push.new.self c.in-Ok.simple c.in-Ok.after.now c.in_ok-push-in-Ok.ensures.ok
    (sym (c.begins_simple.ensures c.args.self.now) ∙ c.simples-test.true) c.in-Ok.ensures.gives c.in-Ok.ensures.known c.in-Ok.ensures.rest

pub returns-in-Err-clause-gives : goal.returns-in-Err-clause-gives
returns-in-Err-clause-gives c = stopped c.simples.invariant c.in-Err.stop (sym (c.begins_simple.ensures c.args.self.now) ∙ c.simples-test.true) c.in-Err.ensures.gives

pub returns-clause-gives : goal.returns-clause-gives
returns-clause-gives c = ended c.simples.invariant (sym (c.begins_simple.ensures c.args.self.now) ∙ c.simples-test.false)
