pub mod BelowLemmas
pub mod EntryLemmas
pub mod IndexLemmas
pub mod KeyLemmas
pub mod NameLemmas
pub mod PrintLemmas
pub mod RuleLemmas
