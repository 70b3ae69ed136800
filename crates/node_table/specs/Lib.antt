pub mod Asked
pub mod Content
pub mod Dropping
pub mod Hearing
pub mod Making
pub mod Nodes
pub mod Serving
