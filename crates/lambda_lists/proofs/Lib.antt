-- The lemmas of this crate.
pub mod Keywords
pub mod WholeLists
pub mod Cuts
