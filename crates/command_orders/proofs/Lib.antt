pub mod ArgumentLemmas
pub mod OrderLemmas
pub mod PrintLemmas
pub mod WordLemmas
