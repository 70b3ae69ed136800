pub mod CourseLemmas
pub mod CycleLemmas
pub mod GoingLemmas
pub mod PhaseLemmas
pub use Rattle.cycle_parts.proofs.FiringKnown
pub use Rattle.cycle_parts.proofs.GrownLemmas
pub use Rattle.cycle_parts.proofs.LimitLemmas
pub use Rattle.cycle_parts.proofs.PartsNamedLemmas
pub use Rattle.cycle_parts.proofs.PartsSoundLemmas
pub use Rattle.cycle_parts.proofs.StandsLemmas
pub use Rattle.cycle_parts.proofs.PendingWorkRuleLemmas as RuleLemmas
