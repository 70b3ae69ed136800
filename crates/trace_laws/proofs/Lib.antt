pub mod TableLemmas
pub mod EventLemmas
pub mod LevelLemmas
