-- The text of a case's listing: its definition, then the theorems, then what the code rests on.
-- ---- what a reader must believe
pub mod Text  -- the text that report prints for a case
pub mod Listed  -- the text tells of T, the greatest simulation, its score, and the formulas' whole values
pub mod Answered  -- and of what a settled desk answers that was last opened with the case
-- ---- theorems
pub mod Decimal  -- the digits of a number
pub mod Entries  -- the text of a table depends on its entries alone
pub mod Settled  -- the round that Text finds is T
pub mod Most  -- the greatest length of a text
pub mod Examples  -- the text of document 01's example, and that of empty input
-- ---- for the code
pub mod Writing  -- bytes written one after the other at a place of a buffer
pub mod Unique  -- the fact of an accepted case is a proposition
pub mod Lines  -- what is put into a text
pub mod Settling  -- rounds worked until one equals the one before
pub mod Accepting  -- what the code knows of an accepted case
