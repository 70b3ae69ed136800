pub mod Counted
pub mod Numbers
pub mod Remembered
pub mod Told
