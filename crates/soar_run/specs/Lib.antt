pub mod Asked
pub mod Cycles
pub mod Failing
pub mod Ready
pub mod Spoken
