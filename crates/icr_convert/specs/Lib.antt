-- The definitions of this crate.
pub mod Naming
pub mod Scene
pub mod Converting
pub mod Coding
pub mod Whole
pub mod Programs
