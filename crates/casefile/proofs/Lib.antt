pub mod WriterLaws  -- the loops that write a gapless case, and the one that counts its bytes
pub mod Answered  -- the steps of the check give the answer of the reading
pub mod Formulas  -- the loop over the formula parts
pub mod Examples  -- the case of document 01's report example
pub mod Caller  -- what a caller of the check learns from the answer
pub mod Content  -- the lattice, the models and the formulas of an accepted case
pub mod Same  -- accepted cases that say the same have the same bytes
pub mod Exactly  -- which strings of bytes are cases, and with which content
pub mod Accepted  -- what holds of an accepted case, and of its gapless form
pub mod FormulaParts  -- which parts are read as which formulas
pub mod Numbered  -- the refusals 1 to 10 are given so
pub mod FirstParts  -- the parts that refusals 3 and 10 name
pub mod ModelsRead  -- what comes of the models: refusal 9, or the formulas
