pub mod Details
pub mod Lessons
