-- `formula_reader`: going through a formula part, and its facts. What stands at a place is in formula_tokens/Tokens, what its facts are in
-- formula/Answer.
-- ---- theorems
pub mod Through  -- reading a formula's bytes token by token gives its nodes in prefix order
