pub mod DoubtLemmas
pub mod FiringsCoverLemmas
pub mod IdleLemmas
pub mod RecordsCoverLemmas
pub mod TrackedLemmas
