pub mod NameLemmas
pub mod SayingLemmas
pub mod TextLemmas
