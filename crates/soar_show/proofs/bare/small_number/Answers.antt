use Rattle.std.proofs.Common.{◌∙◌, sym, ap, arith, Some, None}
use Rattle.std.specs.Prelude.{nat_le, if◌then◌else◌}
use Rattle.defs_text.specs.Runs.{number_from}
use Rattle.soar_show.proofs.WordLemmas.{number_too_great}
use Rattle.soar_show.proofs.bare.small_number.Goals as goal

pub returns-then-value-gt-MOST_NUMBER : goal.returns-then-value-gt-MOST_NUMBER
returns-then-value-gt-MOST_NUMBER c =
    sym (ap (λ b. if b then Some (number_from 0 c.args.digits.now) else None)
    (sym (ap (λ n. nat_le n 4294967295) c.digits.invariant.number) ∙ number_too_great c.digits.value c.digits.digit-index c.args.digits.now (omega arith) (omega arith)))
