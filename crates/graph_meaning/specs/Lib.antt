-- What graphs mean.
pub mod Machine
pub mod Reading
pub mod Effects
pub mod Extents
pub mod Running
pub mod AsLayer
pub mod Laws
pub mod Everything
