-- That what is read may be loaded is shown in lemmas.
use Rattle.loading_laws.proofs.ReadLiterals.{checked_may_be_loaded, read_is_of_words}
use Rattle.loading_laws.proofs.ReadOrders.{present_reads_lawfully, whole_reads_lawfully}
use Rattle.loading_laws.proofs.what_is_read_may_be_loaded.Goals as goal

pub returns-clause-read : goal.returns-clause-read
returns-clause-read c = read_is_of_words

pub returns-clause-checked : goal.returns-clause-checked
returns-clause-checked c = checked_may_be_loaded

pub returns-clause-whole : goal.returns-clause-whole
returns-clause-whole c = whole_reads_lawfully

pub returns-clause-present : goal.returns-clause-present
returns-clause-present c = present_reads_lawfully
