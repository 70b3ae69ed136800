pub mod LoopLaws
pub mod ValueLaws
