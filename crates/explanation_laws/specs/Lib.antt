pub mod Moments
pub mod Printed
pub mod Staying
pub mod Stays
