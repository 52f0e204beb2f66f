-- The definitions of this crate.
pub mod Tops
pub mod Files
pub mod Laws
