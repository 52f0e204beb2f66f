-- What it is for an edit of a graph to keep its meaning.
pub mod Laws
