-- The lemmas of this crate.
pub mod Readings
pub mod Growths
pub mod Chains
pub mod Walks
pub mod ListsOf
