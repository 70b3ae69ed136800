pub mod TagLemmas
pub mod TellingLemmas
pub mod LawfulLemmas
