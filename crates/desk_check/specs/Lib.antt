-- What the examination of a desk answers, and what a call does, in the desk's terms; calls one after the other; then what the proofs of the code use.
-- ---- what a reader must believe
pub mod Read  -- the code's standing, read as the desk's
pub mod Answer  -- what the examination answers, and what a call does (`Does`)
-- ---- theorems
pub mod Consecutive  -- calls made one after the other, each by its contract, are a list of calls
-- ---- for the code
pub mod Held  -- what a call knows of a desk that passes the examination, and what it does then
