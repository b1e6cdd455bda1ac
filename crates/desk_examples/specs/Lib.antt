-- What the desk's definitions give on examples, by computation.
-- ---- theorems
pub mod Examples  -- two worked examples of document 01 as calls and answers; the lowerings of altered desks
