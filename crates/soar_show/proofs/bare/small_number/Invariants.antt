use Rattle.std.proofs.Common.{◌≡◌, ◌≤◌, drop}
use Rattle.defs_text.specs.Runs.{number_from}
use Rattle.soar_show.proofs.bare.small_number.Given as goal

abbrev pub invariant-digits : goal.invariant-digits
invariant-digits l = record {
  small : l.value ≤ 4294967295;
  number : number_from l.value (drop l.digit-index l.digits) ≡ number_from 0 l.digits;
}
