pub mod Lookup
pub mod Sizes
