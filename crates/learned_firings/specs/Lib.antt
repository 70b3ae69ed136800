pub mod Deciding
pub mod Firings
pub mod Flags
pub mod NameTotals
pub mod Naming
pub mod Totals
