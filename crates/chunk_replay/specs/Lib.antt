pub mod LookedUp
