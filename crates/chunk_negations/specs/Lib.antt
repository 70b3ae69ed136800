pub mod Superstate
