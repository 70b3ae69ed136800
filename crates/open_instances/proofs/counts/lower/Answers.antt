use Rattle.std.proofs.Common.{◌∙◌, ◌-◌, ap, cond, arith}
use Rattle.open_instances.specs.Keys.{held_in, same_key}
use Rattle.open_instances.proofs.CountLemmas.{dropped, held_as_counted, lowered}
use Rattle.open_instances.proofs.counts.lower.Goals as goal

pub returns-then-count-gt1-clause-left : goal.returns-then-count-gt1-clause-left
returns-then-count-gt1-clause-left c = (let h = held_as_counted c.args.counts.now c.args.key.now in grind (arith, h, c.count_of-count.ensures, c.if-count-gt1.true))

pub returns-then-count-gt1-clause-lowered : goal.returns-then-count-gt1-clause-lowered
returns-then-count-gt1-clause-lowered c =
    let old = c.args.counts.now in
    let key = c.args.key.now in
    lowered old c.set_count.new.counts key (λ q. c.set_count.ensures q ∙ ap (λ n. cond (same_key key q) (n - 1) (held_in old q)) c.count_of-count.ensures)

pub returns-else-count-gt1-clause-left : goal.returns-else-count-gt1-clause-left
returns-else-count-gt1-clause-left c = (let h = held_as_counted c.args.counts.now c.args.key.now in grind (arith, h, c.count_of-count.ensures, c.if-count-gt1.false))

pub returns-else-count-gt1-clause-lowered : goal.returns-else-count-gt1-clause-lowered
returns-else-count-gt1-clause-lowered c = dropped c.args.counts.now c.remove.new.self c.args.key.now (omega (arith, c.count_of-count.ensures, c.if-count-gt1.false)) c.remove.ensures.updates.0
