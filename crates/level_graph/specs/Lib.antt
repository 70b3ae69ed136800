pub mod Marks
pub mod Listed
pub mod Spreading
pub use Rattle.level_laws.specs.Labels
