pub mod Memory
pub mod Packed
pub mod Places
pub mod Store
