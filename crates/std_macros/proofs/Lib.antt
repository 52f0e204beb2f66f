-- The lemmas of this crate.
pub mod Added
pub mod Defaults
pub mod FreshOnes
pub mod Outcomes
pub mod Named
