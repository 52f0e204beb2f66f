-- The lemmas of this crate.
pub mod Found
pub mod NodeParts
pub mod Looked
pub mod Carried
pub mod Told
pub mod InOrder
pub mod Locals
pub mod Filled
pub mod NamesTold
