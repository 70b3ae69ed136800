pub mod CountLemmas
pub mod KeptLemmas
pub mod KeyLemmas
pub mod LeavingLemmas
pub mod MeetingLemmas
pub mod NotedLemmas
