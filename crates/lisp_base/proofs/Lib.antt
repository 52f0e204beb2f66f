-- The lemmas of this crate.
pub mod BaseTable
pub mod Entries
pub mod SpecLemmas
pub mod PrimNamesLemmas
mod ReadingLemmas
mod NameLaws
