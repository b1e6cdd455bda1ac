-- Definitions of `valuer_maps`, then the theorems on them.
-- ---- what a reader must believe
pub mod Code  -- the words that the functions write
-- ---- theorems
pub mod Maps  -- these words are the codes of the maps of nodes
-- ---- for the code
pub mod Successors  -- the successors of a state as a row of bytes, and that AX and EX over them are those over all states
pub mod InRow  -- the same along the row that the code reads
