-- The lemmas of this crate.
pub mod Later
pub mod Entries
pub mod Edits
pub mod Parts
pub mod NewNodes
pub mod Orderly
pub mod Ownership
