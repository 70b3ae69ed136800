pub mod ChangeLemmas
pub mod CoverLemmas
