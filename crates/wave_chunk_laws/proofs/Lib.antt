pub mod GrowthLaws
pub mod StepLaws
