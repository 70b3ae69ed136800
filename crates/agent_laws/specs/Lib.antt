pub mod Dependence
pub mod Ending
pub mod NewGoals
pub mod RecordSteps
pub mod Records
pub mod Trims
pub mod Worked
