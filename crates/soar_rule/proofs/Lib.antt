pub mod BelowLemmas
pub mod CanonicalLemmas
pub mod NumberingLemmas
pub mod OccurrenceLemmas
pub mod RenamingLemmas
pub mod RenumberingLemmas
pub mod SeenLemmas
pub mod VariableLemmas
