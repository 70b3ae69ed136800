pub mod Lines
pub mod Shown
pub use Rattle.trace_laws.specs.Events
