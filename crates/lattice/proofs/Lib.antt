pub mod CheckLaws  -- the steps of the check, and the answer after each
pub mod Ranges  -- a test of each number of a range
