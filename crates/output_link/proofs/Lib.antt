pub mod KnownLemmas
pub mod TagLemmas
pub mod ValueLemmas
pub mod WalkLemmas
