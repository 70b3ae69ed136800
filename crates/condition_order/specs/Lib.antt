pub mod Orders
pub mod Reaching
pub mod Steps
