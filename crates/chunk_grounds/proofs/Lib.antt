pub mod FirstLemmas
pub mod LeadLemmas
