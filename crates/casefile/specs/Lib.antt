-- Definitions of `casefile`, then the theorems on them.
-- ---- what a reader must believe
pub mod Directory  -- what the directory says, refusals 1 to 3, and the bytes of the parts
pub mod Reading  -- the content of a case, or its refusal
pub mod Gapless  -- the gapless case of a list of parts
pub mod Answer  -- what the check of a case answers
pub mod Conditions  -- what a case has to be, what functions on an accepted case ask for, and when two contents say the same
pub mod RefusedAs  -- which refusal a case is given, 1 to 10, and exactly when
-- ---- theorems, and the definitions of those that stand in proofs/
pub mod Placed  -- a case whose parts stand where they may
pub mod ModelsRead  -- what comes of the models: refusal 9, or the formulas
pub mod Numbered  -- the refusals 1 to 10 are given so
pub mod Unread  -- bytes outside the directory and the parts change nothing
pub mod Laid  -- a gapless case is read as its parts
pub mod Accepted  -- what holds of an accepted case, and of its gapless form
pub mod Content  -- the lattice, the models and the formulas of an accepted case
pub mod Caller  -- what a caller of the check learns from the answer
pub mod Examples  -- the case of document 01's report example
-- ---- for the code
pub mod Steps  -- what the steps of the check answer, and what those of the writer leave in a buffer
pub mod Misplaced  -- the loop over the directory
pub mod Formulas  -- the loop over the formula parts
pub mod Appended  -- bytes that are written one after the other
pub mod Writer  -- the loops that write a gapless case, and the one that counts its bytes
