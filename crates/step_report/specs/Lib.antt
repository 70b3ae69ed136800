pub mod Reports
pub mod Saying
pub use Rattle.wave_entries.specs.Details
