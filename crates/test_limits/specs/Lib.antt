-- What `limits` rests on.
-- ---- for the code
pub mod Full  -- model parts of 64 states and 16 propositions
