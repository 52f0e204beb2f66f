pub mod Content
pub mod View
pub mod Fields
pub mod Rows
pub mod Format
