use Rattle.std.proofs.Common.{◌∙◌, sym}
use Rattle.input_memory.proofs.IndexLemmas.{first_found, first_other, first_none}
use Rattle.input_memory.proofs.index.first.Goals as goal

pub returns-then-is_under-clause-some : goal.returns-then-is_under-clause-some
returns-then-is_under-clause-some c = first_found c.args.key c.args.index.now c.range.result c.lowest.result c.lowest.ensures.place (c.range.ensures.in_range tt) _ _ c.in-Some.ensures.steps c.lowest.ensures.told (sym c.is_under.ensures ∙ c.if-is_under.true)

pub returns-else-is_under-clause-none : goal.returns-else-is_under-clause-none
returns-else-is_under-clause-none c = first_other c.args.key c.args.index.now c.range.result c.lowest.result c.lowest.ensures.place (c.range.ensures.in_range tt) _ _ c.in-Some.ensures.steps (sym c.is_under.ensures ∙ c.if-is_under.false)

pub returns-in-None-clause-none : goal.returns-in-None-clause-none
returns-in-None-clause-none c = first_none c.args.key c.args.index.now c.range.result c.lowest.result c.lowest.ensures.place (c.range.ensures.in_range tt) c.in-None.ensures.steps.0
