pub mod Ungrounded
