pub mod Mentions
pub mod Sizes
pub mod Walk
pub mod Inside
pub mod Marking
pub mod Counting
