pub mod DropLemmas
pub mod FoundLemmas
pub mod PlaceLemmas
pub mod StoreLemmas
pub mod ToldLemmas
