pub mod Insides
pub mod Joins
pub mod Networks
pub mod Told
pub mod Ways
