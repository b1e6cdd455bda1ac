-- Codes of a lattice's elements: bit e of a's code is set exactly when e is join-irreducible and at or below a.
-- ---- what a reader must believe: the tests on words, and what they say of an order
pub mod Tests
-- ---- theorems, and the definitions of those that stand in proofs/
-- a partial order, by the words of the elements at or below each
pub mod Order
-- meets and joins, by the same words
pub mod MeetsJoinsFound
-- codes say the order; distributive exactly where the | of two codes is a code
pub mod Birkhoff
-- the elements with a bit are the join-irreducible ones
-- one test for what is accepted
pub mod Accepting
-- the codes of a lattice and of its complements hold its operations
pub mod Held
-- Birkhoff's theorem as one statement
pub mod Representation
-- ---- for the code
pub mod Cong
