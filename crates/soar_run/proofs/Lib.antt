pub mod RanLemmas
pub mod StepLemmas
pub mod TellingLemmas
pub mod TopLemmas
pub mod TurnLemmas
