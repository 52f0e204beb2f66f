pub mod Paths
pub mod Calm
pub mod Constants
pub mod Inputs
pub mod Checks
pub mod Jumps
pub mod Tracks
pub mod Leaves
pub mod Characters
pub mod Nodes
pub mod Trees
pub mod Sizes
pub mod Encodes
pub mod Sited
pub mod Standing
pub mod Steps
pub mod Programs
pub mod Tagged
pub mod Seen
pub mod Theorem
pub mod Unbuilt
pub mod BuiltPrograms
pub mod Law
mod Parted
mod Images
mod Compilation
