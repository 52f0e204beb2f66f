-- The proofs of this crate.
mod Examples
mod FurtherExamples
pub mod Growing
pub mod Lawful
