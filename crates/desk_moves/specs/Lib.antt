-- What open and step answer, in the desk's terms; then what their proofs use.
-- ---- what a reader must believe
pub mod Answer  -- each enum of answers as the desk's reply
-- ---- for the code
pub mod Opened  -- what open does, from the check of its case and what it wrote
pub mod Stepped  -- what step does, from the row that it worked
pub mod Finished  -- what the rest of a round does, from the rows that were worked
