pub mod OrderLemmas
pub mod BelowLemmas
pub mod FormLemmas
