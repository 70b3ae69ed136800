pub mod Names
pub mod Saying
