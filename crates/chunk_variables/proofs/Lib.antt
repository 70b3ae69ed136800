pub mod OccurrenceLemmas
pub mod VariableLemmas
pub mod NamingLemmas
