pub mod Goals
pub mod Learning
pub mod Matching
pub mod Operators
pub mod Present
pub mod Refusals
pub mod Support
pub mod Writes
