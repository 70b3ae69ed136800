mod ActionLemmas
mod Agreement
mod BindingLemmas
mod FiringLemmas
pub mod GrowthLemmas
mod KnownLemmas
mod NumberLemmas
mod OutcomeLemmas
mod ValueLemmas
mod WishLemmas
