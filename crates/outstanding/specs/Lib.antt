pub mod Following
pub mod Holding
pub mod Keys
pub mod Outstanding
pub mod Wrapping
pub use Rattle.live_firings.specs.Known
pub use Rattle.live_firings.specs.Living
pub use Rattle.live_firings.specs.declared.live.Live
