pub mod OrderLemmas
pub mod AloneLemmas
pub mod NestedLemmas
pub mod ApartLemmas
