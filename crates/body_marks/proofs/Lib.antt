pub mod AlikeLaws
pub mod NumberLemmas
