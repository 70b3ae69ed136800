pub mod NameLemmas
pub mod TextLemmas
pub mod UseLemmas
pub mod ValueLemmas
