pub mod Known
pub mod Stack
