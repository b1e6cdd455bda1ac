-- Laws of `tokens`.
pub mod Laws
