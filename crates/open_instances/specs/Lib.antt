pub mod Keeping
pub mod Keys
pub mod Meeting
pub mod Noted
