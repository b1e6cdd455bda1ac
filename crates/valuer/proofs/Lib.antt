-- Laws that the proofs of `valuer` share.
pub mod Places
pub mod Arms
pub mod Rounds
