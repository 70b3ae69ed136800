pub mod WalkLemmas
pub mod OneGoalLemmas
