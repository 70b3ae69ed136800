pub mod AlikeLemmas
pub mod BlockingLemmas
pub mod BodyLemmas
pub mod PreferenceLemmas
pub mod ToldLemmas
