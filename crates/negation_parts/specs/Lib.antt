pub mod Law
pub mod Negations
pub mod ServedNegation
