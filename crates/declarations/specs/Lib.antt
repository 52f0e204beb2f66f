-- The definitions of this crate.
pub mod Bodies
pub mod Policies
pub mod Declarations
