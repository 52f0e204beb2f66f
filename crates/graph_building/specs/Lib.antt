-- The definitions of this crate.
pub mod Later
pub mod Built
pub mod Orderly
pub mod Steps
