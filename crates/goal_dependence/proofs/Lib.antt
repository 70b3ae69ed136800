pub mod ConstantLemmas
pub mod DependenceSteps
pub mod JoinLemmas
pub mod RecordLemmas
pub mod ToldLemmas
