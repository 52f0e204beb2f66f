-- The definitions of this crate.
pub mod PrimitivesText
pub mod NumbersText
pub mod CharactersText
pub mod ListsText
pub mod SequencesText
pub mod StreamsText
pub mod Text
pub mod Names
