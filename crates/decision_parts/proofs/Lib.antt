pub mod AnswerLemmas
pub mod DecidingLemmas
pub mod EndingLemmas
pub mod KnownLemmas
pub mod LeavingLemmas
pub mod LetterLemmas
pub mod MergedLemmas
pub mod OperatorLemmas
pub mod PushedLemmas
pub mod RemovalLemmas
pub mod SayingLemmas
pub mod SelectedLemmas
pub mod SettledLemmas
pub mod StepLemmas
pub mod SubstateLemmas
pub mod WalkedLemmas
pub use Rattle.wave_parts.proofs.FiringKnown
pub use Rattle.wave_parts.proofs.GrownLemmas
pub use Rattle.wave_parts.proofs.KeptUpLemmas
pub use Rattle.wave_parts.proofs.LimitLemmas
pub use Rattle.wave_parts.proofs.NamedLemmas as PartsNamedLemmas
pub use Rattle.wave_parts.proofs.SoundLemmas as PartsSoundLemmas
pub use Rattle.wave_parts.proofs.StandsLemmas
