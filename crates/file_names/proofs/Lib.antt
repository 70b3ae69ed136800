pub mod BlankLemmas
pub mod NameLemmas
