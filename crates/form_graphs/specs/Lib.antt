-- Which graphs are those of forms, and what it is that they do what the forms do.
pub mod Spots
pub mod Standing
pub mod Functions
pub mod Landing
pub mod Calling
pub mod Laws
