-- The lemmas of this crate.
pub mod Named
pub mod SmallForms
pub mod FurtherForms
