-- The definitions of this crate.
pub mod Copies
pub mod Events
pub mod Walked
pub mod Table
pub mod Marks
