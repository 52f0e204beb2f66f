pub mod Tables
pub mod Texts
pub mod Spelling
pub mod Places
