pub mod CauseLemmas
pub mod DraftLemmas
pub mod FormLemmas
pub mod JoinLemmas
pub mod KnownLemmas
pub mod NameLemmas
