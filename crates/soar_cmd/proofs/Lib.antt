pub mod CheckedLemmas
pub mod CommandLemmas
pub mod CutLemmas
pub mod NameLemmas
pub mod RandomLemmas
pub mod ReadingLemmas
pub mod SpelledLemmas
pub mod TokenLemmas
