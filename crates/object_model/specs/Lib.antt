pub mod Tags
pub mod Words
pub mod Memory
