pub mod Explaining
pub use Rattle.chunk_results.specs.Reached
