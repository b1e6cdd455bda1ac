-- Laws of `formula`
pub mod Ends
pub mod Laws
