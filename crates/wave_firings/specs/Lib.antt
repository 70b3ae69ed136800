pub mod FiresAll
pub mod FiringOutcome
pub mod Held
pub mod Listed
pub mod Numbered
