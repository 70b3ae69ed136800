pub mod Looked
pub mod Plans
pub mod Touched
