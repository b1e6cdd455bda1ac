-- Tables held as bytes. Definitions first, then the theorems on them.
-- ---- what a reader must believe
pub mod Table  -- a row written into a table of bytes, the tests whether a table equals F of it and is at or below it, how many entries differ, the contracts' terms
-- ---- theorems
pub mod Round  -- rows worked one by one are a round; what the two tests on tables say
pub mod Rest  -- the rows of a round from a given one on
-- ---- for the code
pub mod Compared  -- two tables compared byte by byte
pub mod Row  -- where a row stands, and what a loop over its entries has done so far
pub mod Rows  -- tables of words, filled by columns
pub mod Codes  -- the inner joins of a whole round, and score, by codes
pub mod Early  -- rows of words whose joins are all top, or whose meets are all bottom
pub mod RowCodes  -- a row of F from the codes of its entries
