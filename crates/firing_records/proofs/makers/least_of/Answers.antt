use Rattle.std.proofs.Common.{◌∙◌, sym, ap}
use Rattle.firing_records.proofs.MakerLemmas.{least_of_all, number_found}
use Rattle.firing_records.proofs.makers.least_of.Goals as goal

pub returns-in-Some : goal.returns-in-Some
returns-in-Some c = ap number_found (sym c.in-Some.is ∙ c.least_found.ensures) ∙ least_of_all c.args.element.now c.args.rows.now

pub returns-in-None : goal.returns-in-None
returns-in-None c = ap number_found (sym c.in-None.is ∙ c.least_found.ensures) ∙ least_of_all c.args.element.now c.args.rows.now
