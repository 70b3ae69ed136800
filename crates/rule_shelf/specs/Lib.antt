pub mod Marks
pub mod Shelf
