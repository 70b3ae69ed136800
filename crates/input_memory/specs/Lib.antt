pub mod Key
pub mod Marks
pub mod Numbered
pub mod Order
pub mod Place
pub mod Plain
pub mod Store
