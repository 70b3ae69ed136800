pub mod KeepingLemmas
pub mod RecordLemmas
