pub mod BindingLemmas
pub mod ConflictLemmas
pub mod FirableLemmas
pub mod OpenLemmas
pub mod LeastLemmas
pub mod PendingLemmas
pub mod RuleLemmas
