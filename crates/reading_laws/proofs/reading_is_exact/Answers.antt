use Rattle.reading_laws.proofs.ExactLaws.{read_is_spelled, spelled_is_read, refused_is_first}
use Rattle.reading_laws.proofs.reading_is_exact.Goals as goal

pub returns-clause-spelled : goal.returns-clause-spelled
returns-clause-spelled c = read_is_spelled

pub returns-clause-read : goal.returns-clause-read
returns-clause-read c = spelled_is_read

pub returns-clause-refused : goal.returns-clause-refused
returns-clause-refused c = refused_is_first
