-- The definitions of this crate.
pub mod Names
pub mod Parts
pub mod Read
pub mod Laws
