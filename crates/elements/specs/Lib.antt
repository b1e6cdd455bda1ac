-- Definitions of `elements`.
pub mod Words  -- a lattice in 128 words: the codes, the operations that contracts read from them, and what the words must be
-- ---- theorems, and the definitions of those that stand in proofs/
pub mod Folds  -- finite meets and joins by codes; joins that are top and meets that are bottom stay so
pub mod Laws  -- & and | as meet and join in an order of words
pub mod Bits  -- words bit by bit
pub mod Unique  -- `Coded` has one proof at most
