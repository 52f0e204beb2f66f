mod Lefts
mod Depth
mod InOrder
mod Unfolds
