pub mod FollowLemmas
pub mod HoldLemmas
pub mod KeyLemmas
pub mod ReadLemmas
