pub mod Knowing
pub mod Matching
pub mod Taught
