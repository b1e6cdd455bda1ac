pub mod ExamplesHold  -- theorem 8: the worked examples hold
pub mod Sharp  -- T is at most N1·N2 + 1, whatever the longest chain
pub mod PairLaws  -- theorem 10: the count of pairs is at most N1·N2, and when it is 0
pub mod Preservation  -- theorems 6 and 7: what a table bounds
pub mod RoundLowerings  -- theorem 4 of the lowerings of the rounds
pub mod Rounds  -- theorems 3 to 5: rounds descend, T exists, and round T is the greatest simulation; tables at or below F of them
pub mod Fixpoint  -- theorem 2: the values of fixpoints, and that values are those of the calculus
pub mod Iterates  -- the iterates of a monotone map
pub mod Monotone  -- theorem 2, the first part: values are monotone
pub mod Irreducible  -- join-irreducible elements
pub mod Descent  -- theorem 4, the general part: how often a descending sequence of tables changes
pub mod Share  -- theorem 9: a share is the nearest whole number of per cent, and of two the even one
pub mod Parts  -- a test of every element of a list, or of a part of it
