pub mod Blanks
pub mod KnownLemmas
pub mod SayingLemmas
pub mod TextLemmas
