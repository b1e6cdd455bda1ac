-- `tokens`: what stands at a place of a formula part. Definitions first, then the theorems on them.
-- ---- what a reader must believe
pub mod Tokens  -- the token at a place, its end, and the tokens of a formula
-- ---- theorems
pub mod Sizes  -- a token lies within its part; codes past 10 are none
