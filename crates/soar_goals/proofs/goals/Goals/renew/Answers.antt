use Rattle.std.proofs.Common.{◌-◌, ◌∙◌, ap, length, sym, subst}
use Rattle.soar_goals.specs.Stack.{IsStack, with_items}
use Rattle.soar_goals.proofs.StackLemmas.{same_length, still_a_stack}
use Rattle.soar_goals.proofs.goals.Goals.renew.Goals as goal

pub invariant_of-self : goal.invariant_of-self
invariant_of-self c =
    subst IsStack (sym c.renew.ensures) (still_a_stack (with_items c.args.items) (c.args.depth - 1) c.self.inside.entries c.self.invariant)

pub returns-clause-length : goal.returns-clause-length
returns-clause-length c = ap length c.renew.ensures ∙ same_length (with_items c.args.items) (c.args.depth - 1) c.self.inside.entries ∙ ap length c.self.view_is
