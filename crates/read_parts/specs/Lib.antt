pub mod Expanding
pub mod Grouping
pub mod Naming
pub mod Using
pub mod Words
