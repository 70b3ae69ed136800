pub mod Walks
pub mod OneGoal
