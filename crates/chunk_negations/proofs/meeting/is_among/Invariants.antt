use Rattle.std.proofs.Common.{◌≡◌, drop}
use Rattle.soar_rule.specs.Variables.{is_among}
use Rattle.chunk_negations.proofs.meeting.is_among.Given as goal

abbrev pub invariant-variables : goal.invariant-variables
invariant-variables l = is_among (drop l.other-index l.variables) l.variable ≡ is_among l.variables l.variable
