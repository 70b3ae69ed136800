use Rattle.reading_laws.proofs.BackLaws.{printed_is_read}
use Rattle.reading_laws.proofs.CheckedLaws.{checked_is_read}
use Rattle.reading_laws.proofs.PrintableLaws.{read_is_printable}
use Rattle.reading_laws.proofs.printing_reads_back.Goals as goal

pub returns-clause-printed : goal.returns-clause-printed
returns-clause-printed c = printed_is_read

pub returns-clause-printable : goal.returns-clause-printable
returns-clause-printable c = read_is_printable

pub returns-clause-checked : goal.returns-clause-checked
returns-clause-checked c =
    let laws = c.checked_is_in_order.ensures in
    checked_is_read laws.stays laws.whole laws.renumbered
