pub mod DecidingLemmas
pub mod FiringLemmas
pub mod IdentifierLemmas
pub mod NameLemmas
pub mod TakenLemmas
