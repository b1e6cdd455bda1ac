-- `formula`: the bytes of a formula and the reading of a formula part. Definitions first, then the theorems on them.
-- ---- what a reader must believe
pub mod Bytes  -- the bytes of a formula, the parse, and refusal 10
pub mod Answer  -- what the check of a formula part answers, and the facts of a formula
-- ---- theorems
pub mod RoundTrip  -- the parse and the bytes of a formula are inverse to one another
pub mod ByToken  -- the parse goes by tokens
pub mod Examples  -- formula parts at their limits, and facts of formulas, by computation
-- ---- for the code
pub mod Check  -- what the check answers at each place of a part; facts from those of the formulas within
