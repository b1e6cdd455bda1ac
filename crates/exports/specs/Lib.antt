-- What the exports answer, as numbers.
-- ---- what a reader must believe
pub mod Numbers  -- the numbers of a reply, of show's table, and of what a desk holds
pub mod Finished  -- what the export of the rest of a round says
pub mod Worked  -- what the export of one entry of the next round says
-- ---- for the code
pub mod NumbersLaws  -- the numbers lose nothing of a reply, and follow from what the calls do
pub mod WorkedLaws  -- and that it follows from what the code found
