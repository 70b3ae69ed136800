use Rattle.std.proofs.Common.{◌∙◌, ap₂}
use Rattle.std.specs.Ordering.{is_gt}
use Rattle.input_memory.specs.Numbered.{numbered_cmp}
use Rattle.input_memory.specs.Order.{place_cmp}
use Rattle.input_memory.proofs.PartLemmas.{forward}
use Rattle.input_memory.proofs.index.gather.Goals as goal

pub range-place-items-requires : goal.range-place-items-requires
range-place-items-requires c = ap₂ (λ a b. is_gt (numbered_cmp place_cmp (a, 0) (b, 0))) c.edge.ensures.place c.edge-2.ensures.place ∙ forward c.args.id
