pub mod Known
pub mod Marks
pub mod Merging
pub mod Plans
pub mod Renewal
pub mod Settles
pub mod Tagging
pub use Rattle.soar_prefs.specs.Memory
