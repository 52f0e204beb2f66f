-- The definitions of this crate.
pub mod Borders
pub mod Walks
pub mod Values
pub mod Members
pub mod Described
pub mod Named
