pub mod KeptLemmas
pub mod LevelLemmas
