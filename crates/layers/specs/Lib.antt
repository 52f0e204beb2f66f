-- The definitions of this crate.
pub use Rattle.lisp_base.specs.Seen
pub mod Input
pub mod Shown
pub mod Layer
pub mod Keeping
pub mod Fuel
pub mod Simulation
pub mod Among
pub mod Pace
pub mod Laws
pub mod Lemmas
