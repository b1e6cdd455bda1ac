-- What the reading calls say of a standing that is lent.
-- ---- what a reader must believe
pub mod Asked  -- the equation of the call by value, and the standing unchanged
