pub mod Closed
pub mod Joining
pub mod Reading
pub mod Walking
