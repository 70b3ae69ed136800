use Rattle.std.proofs.Common.{sym, subst, length, ◌<◌, true, slice_set, arith}
use Rattle.rete_alpha.specs.Shapes.{number_at, IsShaped}
use Rattle.rete_alpha.proofs.ShapeLemmas.{shaped_with}
use Rattle.rete_alpha.proofs.shapes.PatternNumbers.insert.Goals as goal

pub invariant_of-self-2 : goal.invariant_of-self-2
invariant_of-self-2 c =
    subst (λ at. IsShaped (number_at c.insert.new.self.entries) (slice_set c.self.inside.shapes at true)) (sym c.shape-at.ensures.value)
    (shaped_with (number_at c.self.inside.by_pattern.entries) (number_at c.insert.new.self.entries) c.self.inside.shapes c.args.p c.args.n c.self.invariant
    (subst (λ at. at < length c.self.inside.shapes) c.shape-at.ensures.value (omega (arith, c.shape-at.ensures.bound, c.self.told))) c.in_ok-insert.ensures.updates.0)
