pub mod Agreeing
pub mod ChainLemmas
pub mod ChunkLemmas
pub mod MatchLemmas
pub mod OrderLemmas
