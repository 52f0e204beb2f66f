-- The lemmas of this crate.
pub mod DigitSums
pub mod Strings
pub mod Chains
pub mod Shapes
pub mod Steps
pub mod Shorts
pub mod Standing
pub mod Sound
pub mod Whole
pub mod Forward
pub mod OneAnswer
