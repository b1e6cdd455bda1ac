-- The mathematics of the desk. Definitions first, then the theorems on them. A theorem's number is its row in docs/PROOFS.md, unless 000 is named.
-- ---- what a reader must believe
pub mod Lattice  -- finite distributive De Morgan lattices, → and ↔, finite meets and joins, chains
pub mod Model  -- latticed Kripke structures
pub mod Formula  -- formulas of the latticed mu-calculus, and the tests on them that the demands name
pub mod Value  -- the value of a formula at a state and on a whole model
pub mod Calculus  -- the latticed mu-calculus, with no count of applications
pub mod Simulation  -- the simulation operator F, its rounds, T, score, share and lowerings
pub mod Pairs  -- how many pairs working one entry of F looks at
pub mod Test  -- tests over the numbers below a limit
pub mod Lists  -- lists by their rule, and bytes written at a place of a list
pub mod Part  -- the lattice and the model of a part's bytes
pub mod Examples  -- the worked examples of document 01, with the shares of request 101 and what request 106 has to ask of a formula, as statements
-- ---- theorems, and the definitions of those that stand in proofs/
pub mod TestLaws  -- laws of tests
pub mod Folds  -- theorem 1: finite meets and joins, the De Morgan laws, → and ↔
pub mod Loop  -- invariants of loops that count up from 0
pub mod Written  -- laws of bytes written at a place of a buffer
pub mod Finite  -- sums, counts, searches and lists of finitely many things
pub mod Lowerings  -- laws of the entries in which tables differ
pub mod Descent  -- theorem 4, the general part: how often a descending sequence of tables changes
pub mod Monotone  -- theorem 2, the first part: values are monotone
pub mod Iterates  -- the iterates of a monotone map
pub mod Fixpoint  -- theorem 2: the values of fixpoints, and that values are those of the calculus
pub mod Height  -- theorem 4, the rest: there is a longest chain
pub mod Irreducible  -- join-irreducible elements
pub mod ExamplesHold  -- theorem 8: the worked examples hold
pub mod Share  -- theorem 9: a share is the nearest whole number of per cent, and of two the even one
pub mod Sharp  -- T is at most N1·N2 + 1, whatever the longest chain
