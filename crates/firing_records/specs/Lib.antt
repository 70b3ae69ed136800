pub mod Among
pub mod Levels
pub mod Makers
pub mod Own
pub mod Recorded
pub use Rattle.kept_triples.specs.Kept
