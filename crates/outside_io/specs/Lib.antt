pub mod Views
pub mod Causes
pub mod Moves
pub mod Names
pub mod Memory
