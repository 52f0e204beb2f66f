-- The definitions of this crate.
pub mod Trees
pub mod LambdaLists
pub mod Readings
pub mod Laws
