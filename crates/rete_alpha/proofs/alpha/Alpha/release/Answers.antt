use Rattle.std.proofs.Common.{◌∙◌, sym, ap}
use Rattle.slab.specs.Slab.{get}
use Rattle.rete_alpha.specs.Alphas.{asked_at, AlphaOf}
use Rattle.rete_alpha.proofs.ViewLemmas.{view_at, releases}
use Rattle.rete_alpha.proofs.alpha.Alpha.release.Goals as goal

pub returns-then-not-self-clause-releases : goal.returns-then-not-self-clause-releases
returns-then-not-self-clause-releases c works =
    releases c.args.self.now _ (get c.self.inside.slots) (get c.release_at.new.slots) c.args.n (λ k. ap (λ v. asked_at v k) (sym c.self.view_is) ∙ view_at c.self.inside.slots.slots k) (view_at c.release_at.new.slots.slots) (ap (λ (v : AlphaOf). v.elements) c.self.view_is) c.release_at.ensures.slots
