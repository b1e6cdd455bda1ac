-- Share of the entries of a table that is held as bytes.
pub mod ShareIn  -- share by a lattice's codes, and that it is the theory's
