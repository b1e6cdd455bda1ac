pub mod Representation
pub mod Irreducible
pub mod Held
pub mod Accepting
pub mod Birkhoff
