-- The definitions of this crate.
pub mod Forms
pub mod Writing
pub mod Texts
pub mod Parsing
pub mod Each
