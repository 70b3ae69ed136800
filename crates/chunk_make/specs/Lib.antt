pub mod Drafts
pub mod Findings
pub mod Known
