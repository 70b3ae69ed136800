use Rattle.std.proofs.Common.{◌∙◌, sym, ap}
use Rattle.slab.specs.Slab.{get}
use Rattle.rete_alpha.specs.Shapes.{number_at}
use Rattle.rete_alpha.specs.Alphas.{asked_at, AlphaOf}
use Rattle.rete_alpha.specs.Insides.{IsWhole}
use Rattle.rete_alpha.proofs.ViewLemmas.{view_at, are_patterns}
use Rattle.rete_alpha.proofs.alpha.Alpha.law.Goals as goal

pub returns-clause-patterns : goal.returns-clause-patterns
returns-clause-patterns c works =
    let whole : IsWhole c.self.inside = c.self.invariant (ap (λ (v : AlphaOf). v.failed) c.self.view_is ∙ works) in
    are_patterns c.args.self.now (number_at c.self.inside.numbers) (get c.self.inside.slots) (λ k. ap (λ v. asked_at v k) (sym c.self.view_is) ∙ view_at c.self.inside.slots.slots k) whole.sound whole.asked
