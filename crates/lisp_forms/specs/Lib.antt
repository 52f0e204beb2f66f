-- The definitions of this crate.
pub mod Conses
pub mod Growth
pub mod Trees
pub mod Building
pub mod Laws
