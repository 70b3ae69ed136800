pub mod Agenda
pub mod Links
pub mod Turns
