-- the loop that reads attributes that are made
use Rattle.std.proofs.Common.{sym, ◌∙◌}
use Rattle.tree_parts.proofs.LoopLaws.{begun, pushed, ended, stopped}
use Rattle.soar_tree.proofs.make.makes.Goals as goal

pub makes-init : goal.makes-init
makes-init c = begun c.new-makes.result c.new-makes.ensures c.requires

pub makes-preserved : goal.makes-preserved
makes-preserved c =
    pushed c.makes.invariant c.push.new.self c.in-Ok.make c.in-Ok.after.now c.in_ok-push-in-Ok.ensures.ok
    (sym (c.begins_mark.ensures c.args.reader.now) ∙ c.makes-test.true) c.in-Ok.ensures.gives c.in-Ok.ensures.known c.in-Ok.ensures.rest

pub returns-in-Err-clause-gives : goal.returns-in-Err-clause-gives
returns-in-Err-clause-gives c = stopped c.makes.invariant c.in-Err.stop (sym (c.begins_mark.ensures c.args.reader.now) ∙ c.makes-test.true) c.in-Err.ensures.gives

pub returns-clause-gives : goal.returns-clause-gives
returns-clause-gives c = ended c.makes.invariant (sym (c.begins_mark.ensures c.args.reader.now) ∙ c.makes-test.false)
