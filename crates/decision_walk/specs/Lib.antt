pub mod Ends
pub mod First
pub mod Known
pub mod Makers
pub mod Steps
