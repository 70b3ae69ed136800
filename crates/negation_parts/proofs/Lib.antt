pub mod KeptLemmas
pub mod NegationLemmas
