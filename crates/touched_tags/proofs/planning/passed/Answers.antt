use Rattle.std.proofs.Common.{◌+◌, ◌-◌, length, sym, arith}
use Rattle.touched_tags.proofs.CountLemmas.{fewer_than_tags, none_passed}
use Rattle.touched_tags.proofs.planning.passed.Goals as goal

pub returns-then-is_within : goal.returns-then-is_within
returns-then-is_within c =
    let few = fewer_than_tags c.args.memory.now.last c.args.memory.now.elements c.law.ensures.rising c.law.ensures.given in
    let within = c.is_within.ensures c.if-is_within.true in
    sym (none_passed (length c.args.memory.now.elements - c.args.going + c.args.new) (c.args.memory.now.last + c.args.new) (omega (arith, few, within, c.last_tag-last.ensures)) (omega (arith, within, c.last_tag-last.ensures)))
