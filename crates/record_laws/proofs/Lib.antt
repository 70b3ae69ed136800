pub mod ClosedLaws
pub mod JoiningLaws
pub mod LawfulRecords
pub mod LearningRecords
pub mod WalkingLaws
