pub mod Answers
pub mod Carrying
pub mod Causes
pub mod Following
pub mod Lengths
pub mod Reading
pub mod Turning
pub mod Whole
