-- The definitions of this crate.
pub mod Planned
pub mod CheckedTrees
pub mod Made
pub mod Counts
pub mod Places
pub mod There
pub mod ThereParts
pub mod Tested
pub mod LawfulTrees
pub mod Definitions
