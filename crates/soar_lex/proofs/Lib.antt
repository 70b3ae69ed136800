pub mod CutLemmas
pub mod FrontLemmas
pub mod MeantLemmas
pub mod QuoteLemmas
pub mod RunLemmas
pub mod WordLemmas
