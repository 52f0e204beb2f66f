-- The lemmas of this crate.
pub mod NodeParts
pub mod Gathered
pub mod Closed
pub mod NumberSets
pub mod NumberLaws
pub mod WordRounds
pub mod SampleLaws
pub mod Known
pub mod LostWords
