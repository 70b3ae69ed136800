pub mod BrokenLemmas
pub mod HeldLemmas
pub mod KeptLemmas
pub mod LostLemmas
pub mod TagLemmas
pub mod RoundLemmas
