-- The definitions of this crate.
pub mod Texts
pub mod Printing
pub mod Progress
