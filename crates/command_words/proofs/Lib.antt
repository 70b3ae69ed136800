mod CaseFacts
pub mod AgreeLemmas
pub mod CommandLemmas
pub mod FaultLemmas
pub mod LookLemmas
pub mod NumberLemmas
pub mod RowLemmas
pub mod ShortLemmas
pub mod TurnLemmas
pub mod UseLemmas
pub mod Walking
