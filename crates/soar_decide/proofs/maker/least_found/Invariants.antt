use Rattle.std.proofs.Common.{◌≡◌, drop, None}
use Rattle.soar_decide.specs.Makers.{least_maker_from}
use Rattle.soar_decide.proofs.maker.least_found.Given as goal

abbrev pub invariant-rows : goal.invariant-rows
invariant-rows l = least_maker_from l.least l.operator (drop l.row-index l.rows) ≡ least_maker_from None l.operator l.rows
