pub mod Found
pub mod Lettered
