pub mod Broken
pub mod Doubted
pub mod Held
pub mod Lost
pub mod Trims
