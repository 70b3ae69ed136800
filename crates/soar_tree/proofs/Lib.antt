pub mod ConditionLaws
pub mod EndingLaws
