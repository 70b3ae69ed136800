pub mod ActionOutcomes
pub mod Fires
pub mod Growth
pub mod Known
pub mod Outcomes
pub mod Steps
