use Rattle.rete_alpha.specs.Shapes.{number_at}
use Rattle.rete_alpha.proofs.ShapeLemmas.{shaped_without}
use Rattle.rete_alpha.proofs.shapes.PatternNumbers.remove.Goals as goal

pub invariant_of-self : goal.invariant_of-self
invariant_of-self c = shaped_without (number_at c.self.inside.by_pattern.entries) (number_at c.remove.new.self.entries) c.self.inside.shapes c.args.p.now c.self.invariant c.remove.ensures.updates.0
