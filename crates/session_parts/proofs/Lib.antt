pub mod ReachLemmas
pub mod RuleLemmas
pub mod SaidLemmas
pub mod TagLemmas
