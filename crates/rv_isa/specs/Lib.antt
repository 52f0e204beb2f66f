pub mod Word
pub mod Encoding
pub mod Operations
pub mod Machine
pub mod Start
pub mod Valid
