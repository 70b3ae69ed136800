pub mod Active
pub mod Candidates
pub mod Firables
pub mod Open
pub mod Working
