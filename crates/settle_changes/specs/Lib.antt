pub mod Rest
pub mod Naming
pub mod Leaving
pub mod Stages
