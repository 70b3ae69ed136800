pub mod ChunkLemmas
pub mod CountLemmas
pub mod TableLemmas
pub mod ToldLemmas
pub use Rattle.cycle_phases.proofs.CourseLemmas
pub use Rattle.cycle_phases.proofs.LimitLemmas
pub use Rattle.cycle_phases.proofs.StandsLemmas
pub use Rattle.cycle_phases.proofs.RuleLemmas
