-- What the calls that only read the desk answer, in the desk's terms; then what their proofs use.
-- ---- what a reader must believe
pub mod Answer  -- what show and a question do, and each enum of answers as the desk's reply
-- ---- for the code
pub mod Questions  -- a question on a held desk, answered from what the code found
pub mod Writing  -- the same of write
