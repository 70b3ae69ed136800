use Rattle.std.proofs.Common.{rules, arith}
use Rattle.live_firings.proofs.PlaceLemmas.{first_stands, none_stands}
use Rattle.live_firings.proofs.index.first.Goals as goal

pub returns-in-Some-clause-some : goal.returns-in-Some-clause-some
returns-in-Some-clause-some c = first_stands c.args.number c.args.numbers.now c.range.result c.new.result.start c.new.result.end c.new.ensures.start c.new.ensures.end (c.range.ensures.in_range (search rules)) _ _ c.in-Some.ensures.steps

pub returns-in-None-clause-none : goal.returns-in-None-clause-none
returns-in-None-clause-none c n small = none_stands c.args.number c.args.numbers.now c.range.result c.new.result.start c.new.result.end c.new.ensures.start c.new.ensures.end (c.range.ensures.in_range (search rules)) c.in-None.ensures.steps.0 n (omega (arith, small))
