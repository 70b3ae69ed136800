pub mod AgendaLemmas
pub mod ElementLemmas
pub mod NetworkLemmas
pub mod SettleLemmas
pub mod StartLemmas
pub mod ToldLemmas
pub mod ViewLemmas
pub mod WayLemmas
