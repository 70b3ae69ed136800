use Rattle.std.proofs.Common.{◌∙◌, sym, ap, subst}
use Rattle.std.proofs.lemmas.Result.{IfOk-weaker}
use Rattle.slab.specs.Slab.{get}
use Rattle.rete_alpha.specs.Shapes.{number_at}
use Rattle.rete_alpha.specs.Alphas.{asked_at, Accepts}
use Rattle.rete_alpha.proofs.ViewLemmas.{view_at, accepted}
use Rattle.rete_alpha.proofs.alpha.Alpha.accepts.Goals as goal

pub returns-clause-accepts : goal.returns-clause-accepts
returns-clause-accepts c =
    IfOk-weaker c.numbers_of.result _ _
    (λ found same. subst (Accepts c.args.self.now c.args.e.now) (sym same)
    (accepted c.args.self.now (number_at c.self.inside.numbers) (get c.self.inside.slots) c.args.e.now (λ k. ap (λ v. asked_at v k) (sym c.self.view_is) ∙ view_at c.self.inside.slots.slots k) (c.self.invariant c.if-self.false).sound))
    c.numbers_of.ensures
