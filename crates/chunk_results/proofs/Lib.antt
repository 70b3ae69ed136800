pub mod EachLemmas
pub mod HeldLemmas
pub mod WalkLemmas
pub mod HeldSteps
pub mod LinkLemmas
pub mod PlaceLemmas
pub mod ToldLemmas
