pub mod Labels
pub mod Literals
pub mod Orders
pub mod Sessions
