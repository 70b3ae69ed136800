pub mod Reached
pub mod Told
pub mod Held
pub mod Placed
