-- The definitions of this crate.
pub mod Reading
pub mod Outcomes
pub mod Marks
pub mod Besides
pub mod Contained
pub mod Stepping
pub mod Keeping
pub mod Opened
pub mod Calling
pub mod Extending
pub mod Chains
pub mod Beginnings
