-- The definitions of this crate.
pub mod Going
pub mod Preludes
pub mod Given
pub mod Small
