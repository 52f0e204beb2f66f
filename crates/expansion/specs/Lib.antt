-- The definitions of this crate.
pub mod Operators
pub mod Scopes
pub mod Steps
pub mod Sketches
pub mod Calls
pub mod Bindings
pub mod Forms
pub mod Expanding
pub mod Named
pub mod Everything
pub mod ExampleForms
pub mod Examples
pub mod FurtherExamples
