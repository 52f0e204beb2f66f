-- The definitions of this crate.
pub mod Tokens
pub mod Spelled
pub mod Trees
pub mod Building
pub mod Reading
pub mod Answers
pub mod Machine
pub mod Held
pub mod Seen
pub mod Laws
