use Rattle.std.proofs.Common.{◌∙◌, sym, ap}
use Rattle.rete_alpha.specs.Shapes.{number_at}
use Rattle.rete_alpha.specs.Taking.{mask_at}
use Rattle.rete_alpha.proofs.PlaceLemmas.{unnoted}
use Rattle.rete_alpha.proofs.shapes.PatternNumbers.has_shape.Goals as goal

pub returns : goal.returns
returns c missing =
    ap (λ es. number_at es (mask_at c.args.e.now c.args.place)) (sym c.self.view_is)
    ∙ unnoted (number_at c.self.inside.by_pattern.entries) c.self.inside.shapes c.args.e.now c.args.place c.weight.result c.self.invariant c.requires c.weight.ensures.value missing
