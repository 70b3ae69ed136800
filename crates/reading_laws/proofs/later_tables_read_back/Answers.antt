use Rattle.reading_laws.proofs.LaterLaws.{read_stays_printable, read_is_read_later, checked_is_read_later}
use Rattle.reading_laws.proofs.later_tables_read_back.Goals as goal

pub returns-clause-printable : goal.returns-clause-printable
returns-clause-printable c = read_stays_printable

pub returns-clause-read : goal.returns-clause-read
returns-clause-read c = read_is_read_later

pub returns-clause-checked : goal.returns-clause-checked
returns-clause-checked c =
    let laws = c.checked_is_in_order.ensures in
    checked_is_read_later laws.stays laws.whole laws.renumbered
