pub mod RoundTrip
pub mod FromWords
pub mod ToWords
pub mod Laws
