use Rattle.std.proofs.Common.{◌^◌, arith}
use Rattle.soar_lex.proofs.RunLemmas.{number_beyond}
use Rattle.soar_lex.proofs.number.decimal_value.Goals as goal

pub returns-in-None : goal.returns-in-None
returns-in-None c = omega (arith, number_beyond (2 ^ 64) c.digits.value c.digits.digit-index c.args.digits.now (omega arith) (omega arith))
