use Rattle.std.proofs.Common.{◌∙◌, sym, subst, arith}
use Rattle.soar_rule.specs.Numbering.{ArePlaced}
use Rattle.soar_rule.proofs.NumberingLemmas.{met_before, met_now, placed_with}
use Rattle.soar_rule.proofs.numbering.Numbering.meet.Goals as goal

pub returns-then-number-len : goal.returns-then-number-len
returns-then-number-len c = met_before c.args.self.now.order c.args.variable (omega arith)

pub invariant_of-self-2 : goal.invariant_of-self-2
invariant_of-self-2 c = record {
  placed =
      subst (λ order. ArePlaced order c.set.new.self) (sym c.in_ok-push.ensures.ok)
      (subst (ArePlaced _) (sym c.set.ensures)
      (placed_with c.args.self.now.order c.args.self.now.places c.grow.new.places c.args.variable c.number-number.result c.args.self.now.placed
      c.in_ok-grow.ensures.same (omega (arith, c.in_ok-grow.ensures.room)) c.number-number.ensures (omega arith)));
}

pub returns : goal.returns
returns c = c.in_ok-push.ensures.ok ∙ met_now c.args.self.now.order c.args.variable (omega arith)
