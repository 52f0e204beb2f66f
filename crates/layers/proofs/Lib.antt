mod Examples
pub mod SeenLemmas
pub mod Moments
pub mod Composing
pub mod Following
pub mod Simulating
pub mod Machines
