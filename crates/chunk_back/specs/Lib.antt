pub mod Makers
pub mod Walk
pub mod Keyed
pub mod Parts
pub mod Namings
pub mod Steps
pub mod Chains
