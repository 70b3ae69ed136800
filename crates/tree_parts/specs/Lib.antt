pub mod Known
pub mod Reading
pub mod Seen
pub mod Underway
