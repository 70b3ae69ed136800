pub mod Chains
pub mod Ends
pub mod Insides
pub mod Leading
pub mod Loads
pub mod Nets
pub mod Requests
pub mod Telling
