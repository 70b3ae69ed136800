pub mod Given
pub mod Labels
pub mod Lookups
pub mod Reasons
pub mod Saying
pub mod Stopping
pub mod Told
pub use Rattle.soar_cmd.specs.Answers
