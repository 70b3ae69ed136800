use Rattle.std.proofs.Common.{rules}
use Rattle.live_firings.proofs.PlaceLemmas.{deep_stands, none_deep}
use Rattle.live_firings.proofs.index.first_deep.Goals as goal

pub returns-in-Some-clause-some : goal.returns-in-Some-clause-some
returns-in-Some-clause-some c = deep_stands c.args.depth c.args.depths.now c.range.result (c.range.ensures.in_range (search rules)) _ _ c.in-Some.ensures.steps

pub returns-in-None-clause-none : goal.returns-in-None-clause-none
returns-in-None-clause-none c d n le = none_deep c.args.depth c.args.depths.now c.range.result (c.range.ensures.in_range (search rules)) c.in-None.ensures.steps.0 d n le
