pub mod KnownLemmas
pub mod LineLemmas
pub mod ListLemmas
pub mod WordLemmas
