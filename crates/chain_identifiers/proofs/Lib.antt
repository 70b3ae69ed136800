pub mod BindingLemmas
pub mod ConstantLemmas
pub mod StepLemmas
