pub mod BalanceLemmas
pub mod HeldLemmas
pub mod KeyLemmas
pub mod LookLemmas
pub mod MarkLemmas
pub mod OwnLemmas
pub mod SetLemmas
pub use Rattle.soar_settle.proofs.TripleOrderLemmas
