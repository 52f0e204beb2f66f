-- The lemmas of this crate.
pub mod Lawful
pub mod TextTokens
pub mod TextValues
pub mod TextsThere
