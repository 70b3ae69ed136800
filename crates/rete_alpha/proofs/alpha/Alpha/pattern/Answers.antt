use Rattle.std.proofs.Common.{◌∙◌, sym, ap, Result, Ok, Err, IfOk}
use Rattle.slab.specs.Slab.{get}
use Rattle.rete_alpha.specs.Shapes.{number_at}
use Rattle.rete_alpha.specs.Alphas.{asked_at, AlphaOf}
use Rattle.rete_alpha.specs.Insides.{alpha_view, IsWhole}
use Rattle.rete_alpha.proofs.ViewLemmas.{view_at, asks}
use Rattle.rete_alpha.proofs.alpha.Alpha.pattern.Goals as goal

pub returns-clause-asks : goal.returns-clause-asks
returns-clause-asks c =
    let whole : IsWhole c.self.inside = c.self.invariant c.if-self.false in
    both (λ n number slots. asks c.args.self.now (alpha_view (record c.self.inside { numbers = c.ask-asked.new.numbers; slots = c.ask-asked.new.slots; failed = c.is_err-self-inside.result }))
    (number_at c.self.inside.numbers) (get c.self.inside.slots) (get c.ask-asked.new.slots) c.args.p.now c.self.inside.elements n (λ k. ap (λ v. asked_at v k) (sym c.self.view_is) ∙ view_at c.self.inside.slots.slots k)
    (view_at c.ask-asked.new.slots.slots) (ap (λ (v : AlphaOf). v.elements) c.self.view_is) whole.sound number slots) c.ask-asked.result c.ask-asked.ensures.number c.ask-asked.ensures.slots
  where
    both : {T E : Type 0} {P Q R : T → Type 0} → ((x : T) → P x → Q x → R x) → (r : Result T E) → IfOk r P → IfOk r Q → IfOk r R
    both f (Ok x) p q = f x p q
    both f (Err e) p q = tt
