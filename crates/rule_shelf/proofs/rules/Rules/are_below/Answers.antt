use Rattle.rule_shelf.proofs.BelowLemmas.{below_last}
use Rattle.rule_shelf.proofs.rules.Rules.are_below.Goals as goal

pub returns-in-Some : goal.returns-in-Some
returns-in-Some c =
    below_last c.self.inside.by_number.entries c.args.self.now c.in-Some.last.now c.args.number c.in-Some.field-0-1.now c.self.invariant.numbered c.self.view_is c.in-Some.ensures.all_up_to c.in-Some.ensures.last
