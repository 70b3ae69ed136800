pub mod MadeLemmas
pub mod KeptLemmas
pub mod KnownLemmas
