-- The definitions of this crate.
pub mod Words
pub mod Macros
pub mod Rules
pub mod Syntax
pub mod Conditionals
pub mod Cases
pub mod Loops
pub mod Bindings
pub mod Places
pub mod ManyValues
pub mod Quasiquotes
pub mod Expanding
