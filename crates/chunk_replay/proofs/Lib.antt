pub mod LookupLemmas
pub mod PassedLemmas
