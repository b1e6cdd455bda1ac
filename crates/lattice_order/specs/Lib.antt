-- An order with a complement on the numbers below n. Definitions first, then the theorems on them.
-- ---- what a reader must believe
pub mod Tests  -- the tests of refusals 5 to 8
pub mod DeMorgan  -- what a distributive De Morgan lattice on the numbers below n is
-- ---- theorems, and the definitions of those that stand in proofs/
pub mod Searched  -- meets, joins, top and bottom found from the order, and that each is the only one
pub mod Agree  -- parts that agree on their elements have the same operations
pub mod Ordered  -- what the tests say of the elements; an order with all meets and joins has a top and a bottom
pub mod Sound  -- the operations of a part that passes every test obey the laws
pub mod Exactly  -- the parts that pass are exactly the distributive De Morgan lattices
