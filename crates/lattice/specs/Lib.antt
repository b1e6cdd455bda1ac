-- The lattice part. Definitions first, then the theorems on them.
-- ---- what a reader must believe
pub mod Panel  -- the panel lattice
pub mod Reading  -- the first of the refusals 4 to 8 that applies, or the part accepted
pub mod Answer  -- what the check of a part answers, and leaves in the codes
pub mod DeMorgan  -- what a distributive De Morgan lattice is: lattice_order's definition, passed on
pub mod Conditions  -- what a part has to be, and which refusal is given exactly when
-- ---- theorems
pub mod Numbered  -- the refusals 4 to 8 are given so
pub mod Accepted  -- accepted are exactly the distributive De Morgan lattices
pub mod Caller  -- what a caller of the check learns from the answer
pub mod PanelTable  -- the rule of the panel's 729 order entries
pub mod PanelLattice  -- the panel lattice is accepted
pub mod Examples  -- the lattices of the worked examples are accepted
-- ---- for the code
pub mod Form  -- sizes, places and bytes of a part of the right form
pub mod Rows  -- the words of an order, from its bytes row by row
pub mod Parts  -- the same of a part: explicit, and the panel
pub mod ByWords  -- the answer from the tests of words
pub mod Filling  -- the 128 codes as the code fills them, and the complement's rules on them
