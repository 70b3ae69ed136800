pub mod KnownLemmas
pub mod StackLemmas
