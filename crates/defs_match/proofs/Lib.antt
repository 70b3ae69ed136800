pub mod BindingLemmas
pub mod RowLemmas
