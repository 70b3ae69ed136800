pub mod Counts
pub mod Kept
pub mod Looking
pub mod Marks
pub mod Owned
