-- The definitions of this crate.
pub mod Programs
