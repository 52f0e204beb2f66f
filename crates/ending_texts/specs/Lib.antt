pub mod Words
pub mod Values
pub mod Errors
pub mod Texts
