use Rattle.std.proofs.Common.{◌≡◌, drop}
use Rattle.defs_text.specs.Runs.{number_from}
use Rattle.soar_lex.proofs.number.decimal_value.Given as goal

abbrev pub invariant-digits : goal.invariant-digits
invariant-digits l = number_from l.value (drop l.digit-index l.digits) ≡ number_from 0 l.digits
