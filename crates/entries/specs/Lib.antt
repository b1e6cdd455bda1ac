-- One entry of F. Definitions first, then what the code needs.
-- ---- what a reader must believe
pub mod Table  -- a table of bytes, an entry of F of it, and the pairs that working it looks at: the contracts' terms
-- ---- for the code
pub mod Words  -- rows of words: as a rule says, replaced where they stand, and folded
pub mod Codes  -- the codes that the loops compute, and that they are those of F's meets and joins
pub mod Joins  -- a join that ends once it is top, block by block
pub mod Prepared  -- what a row's entries have in common, and an entry from it
pub mod Shaped  -- what the structs know of their models and tables
