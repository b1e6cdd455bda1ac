-- `valuer`: what it answers, and that these are the values of the latticed mu-calculus.
-- ---- what a reader must believe
pub mod Values  -- what the valuer answers for a formula part
-- ---- theorems
pub mod Meaning  -- these are the values of the latticed mu-calculus, and elements
pub mod Over  -- a model that was checked is one over the codes
-- ---- for the code
pub mod Node  -- a formula at a place of a part, and what the valuer of that place answers
pub mod Unique  -- that a model is over a lattice can be so in one way alone
