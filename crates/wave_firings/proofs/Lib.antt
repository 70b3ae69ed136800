pub mod AtHandLemmas
pub mod EntriesKnown
pub mod FiringAgreement
pub mod FiringKnown
pub mod FiringLemmas
pub mod RecordedLemmas
