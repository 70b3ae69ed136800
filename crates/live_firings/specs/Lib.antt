pub mod Living
pub mod Store
pub use Rattle.soar_settle.specs.Known
