pub mod NetworkWorlds
pub mod WaitingWorlds
