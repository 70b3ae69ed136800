pub mod SetLemmas
pub use Rattle.level_graph.proofs.KeyLemmas
