-- The desk, its calls and the three demands: definitions in the order of reading, then the theorems.
-- ---- what a reader must believe
pub mod Desk  -- the desk, its calls and their answers
pub mod Case  -- what the calls read in the content of a case
pub mod View  -- all that a question depends on
pub mod Refused  -- which refusal a call gets, or the content that it works on
pub mod Moved  -- the desk after open and after step
pub mod Perform  -- what each call answers, and the desk after it
pub mod Run  -- lists of calls, the last accepted opening, s and r
pub mod RoundLeft  -- the rest of a round in one call: so many steps
pub mod Demand1  -- which refusal is given and exactly when; every other input is accepted
pub mod Demand2  -- the settled table is the greatest simulation, and values are those of the mu-calculus
pub mod Demand3  -- one claim about every list of calls with an accepted opening in it
-- ---- theorems, and the definitions of those that stand in proofs/
pub mod CaseParts  -- formula f and model m of an accepted case, as parts of its bytes
pub mod RulesLaws  -- the tests of refusals 11 to 14 say what their rules say
pub mod ViewLaws  -- a question is answered alike from views that agree at the pairs of states; the bytes of a table hold its entries
pub mod RefusedLaws  -- which refusal a call gets, and what an accepted call knows
pub mod Stands  -- the invariant of demand 3, and that an accepted opening starts it
pub mod Position  -- what the standing is where it holds
pub mod Listed  -- it holds after every list of calls with an accepted opening in it
pub mod Judged  -- what judge's yes and no say of a table, and which tables get a yes
pub mod WrittenBack  -- what write leaves in its buffer, and what opening that gives
pub mod RoundLeftLaws  -- what the steps left in a round do; demand 3 goes through them
pub mod RoundLeftRounds  -- after an opening, n such calls give round n, and T of them settle the desk
pub mod Unwritten  -- table bytes past N1·N2 and store bytes past 24,576 are never written
