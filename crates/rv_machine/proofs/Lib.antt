mod Zeros
mod MemoryLaws
mod Bits
mod DoesLaws
pub mod RunLaws
pub mod WordsLaws
mod StateLaws
