pub mod AmongLemmas
pub mod ConstantLemmas
pub mod MakerLemmas
pub mod MakersUpTo
pub mod OwnLemmas
pub mod SelectionLemmas
pub mod WaveRecords
