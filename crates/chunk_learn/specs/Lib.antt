pub mod Alike
pub mod Blocked
pub mod Candidates
pub mod Seen
pub mod Told
