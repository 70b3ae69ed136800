pub mod ContentOrder
pub mod InstanceOrder
pub mod ListOrder
pub mod RowOrder
