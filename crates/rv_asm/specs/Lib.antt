pub mod Places
pub mod Reach
pub mod Assembly
pub mod Code
pub mod Table
pub mod Placing
pub mod Landing
