pub mod CaseParts  -- formula f and model m of an accepted case, as parts of its bytes
pub mod RulesLaws  -- the tests of refusals 11 to 14 say what their rules say
pub mod ViewLaws  -- a question is answered alike from views that agree at the pairs of states; the bytes of a table hold its entries
pub mod RefusedLaws  -- which refusal a call gets, and what an accepted call knows
pub mod Demand1Holds  -- demand 1 holds of every call on every desk
pub mod Stands  -- the invariant of demand 3, and that an accepted opening starts it
pub mod Stepping  -- an accepted step moves it on
pub mod Position  -- what the standing is where it holds
pub mod Next  -- what the next call answers where it holds
pub mod Listed  -- it holds after every list of calls with an accepted opening in it
pub mod Covered  -- of which formulas the entries shown and the score keep the bound, and the facts by which that is known
pub mod Judged  -- what judge's yes and no say of a table, and which tables get a yes
pub mod WrittenBack  -- what write leaves in its buffer, and what opening that gives
pub mod Demand3Holds  -- demand 3 is proved, and what it says of the questions one by one
pub mod Settling  -- T·N1 accepted steps settle a desk
pub mod RoundLeftLaws  -- what the steps left in a round do; demand 3 goes through them
pub mod RoundLeftRounds  -- after an opening, n such calls give round n, and T of them settle the desk
pub mod Unwritten  -- table bytes past N1·N2 and store bytes past 24,576 are never written
pub mod Demand2  -- the settled table is the greatest simulation, and values are those of the mu-calculus
