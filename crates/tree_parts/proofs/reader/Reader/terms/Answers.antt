-- the loop that reads values
use Rattle.std.proofs.Common.{sym, ◌∙◌}
use Rattle.tree_parts.proofs.LoopLaws.{begun, pushed, ended, stopped}
use Rattle.tree_parts.proofs.reader.Reader.terms.Goals as goal

pub values-init : goal.values-init
values-init c = begun c.new-values.result c.new-values.ensures c.requires

pub values-preserved : goal.values-preserved
values-preserved c =
    pushed c.values.invariant c.push.new.self c.in-Ok.value c.in-Ok.after.now c.in_ok-push-in-Ok.ensures.ok
    (sym (c.begins_term.ensures c.args.self.now) ∙ c.values-test.true) c.in-Ok.ensures.gives c.in-Ok.ensures.known c.in-Ok.ensures.rest

pub returns-in-Err-clause-gives : goal.returns-in-Err-clause-gives
returns-in-Err-clause-gives c = stopped c.values.invariant c.in-Err.stop (sym (c.begins_term.ensures c.args.self.now) ∙ c.values-test.true) c.in-Err.ensures.gives

pub returns-clause-gives : goal.returns-clause-gives
returns-clause-gives c = ended c.values.invariant (sym (c.begins_term.ensures c.args.self.now) ∙ c.values-test.false)
