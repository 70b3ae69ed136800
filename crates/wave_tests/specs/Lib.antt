pub mod Doubts
pub mod Idle
