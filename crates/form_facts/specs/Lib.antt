-- The definitions of this crate.
pub mod View
pub mod Parts
pub mod Read
pub mod Lists
pub mod Words
pub mod Given
pub mod Samples
