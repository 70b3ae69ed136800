use Rattle.std.proofs.Common.{sym}
use Rattle.step_report.proofs.TextLemmas.{mid_last}
use Rattle.step_report.proofs.text.is_mid_after.Goals as goal

pub returns-in-Some : goal.returns-in-Some
returns-in-Some c = sym (mid_last c.args.mid_line c.args.bytes.now c.in-Some.byte.now (sym c.in-Some.ensures.value))
