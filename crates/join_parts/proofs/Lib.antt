pub mod KnownLemmas
pub mod PrefixLemmas
pub mod ServeLemmas
pub mod ServedLemmas
