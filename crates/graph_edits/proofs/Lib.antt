-- The lemmas of this crate.
pub mod Stepping
pub mod Alike
pub mod Nodes
pub mod Steps
pub mod Along
pub mod Lists
pub mod Reading
pub mod AsOne
pub mod Kept
pub mod Blocks
pub mod Values
pub mod Substitution
pub mod Without
pub mod Retiring
pub mod Outside
pub mod Deletion
pub mod Idle
