pub mod Growth
pub mod Numbers
pub mod Names
pub mod Text
