pub mod Answers
pub mod Naming
pub mod Pieces
pub mod Steps
