pub mod ActionLiterals
pub mod ConditionLiterals
pub mod LabelLaws
pub mod LiteralLists
pub mod OrderForms
pub mod ReadLiterals
pub mod ReadOrders
pub mod SessionLaws
