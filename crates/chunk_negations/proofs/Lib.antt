pub mod Lists
pub mod EqualityLemmas
pub mod HigherLemmas
pub mod OwnLemmas
pub mod TakingLemmas
