-- Definitions of `refusal`, then the theorems on them.
-- ---- what a reader must believe
pub mod Number  -- number and part of each refusal
-- ---- theorems
pub mod First  -- the first refusal that applies; number and part tell refusals apart
