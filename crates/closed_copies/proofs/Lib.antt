-- The lemmas of this crate.
pub mod Carried
pub mod Sets
pub mod Told
pub mod Marked
pub mod NodeEvents
pub mod Rounds
pub mod Totals
