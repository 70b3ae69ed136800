pub mod Entries
pub mod Left
pub use Rattle.trace_details.specs.Details
pub use Rattle.trace_details.specs.declared.wish.HeldBy.TheVariants as HeldByVariants
pub use Rattle.live_firings.specs.Living
pub use Rattle.firing_records.specs.Recorded
pub use Rattle.trace_details.specs.Lessons
