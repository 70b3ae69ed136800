pub mod Makers
pub mod Outcomes
