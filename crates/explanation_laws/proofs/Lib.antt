pub mod CycleStays
pub mod MomentLaws
pub mod OrderStays
pub mod PrintedLines
pub mod ProgramLaws
