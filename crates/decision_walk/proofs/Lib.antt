pub mod FirstLemmas
pub mod KnownLemmas
pub mod MakerLemmas
pub mod StepLemmas
pub mod WalkLemmas
