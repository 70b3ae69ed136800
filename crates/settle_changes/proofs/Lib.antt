pub mod PlainLemmas
pub mod CoverLemmas
pub mod LeavingLemmas
pub mod RestLemmas
pub mod StageLemmas
pub mod StepLemmas
