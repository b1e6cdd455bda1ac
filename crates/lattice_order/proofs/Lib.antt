pub mod Exactly  -- the parts that pass are exactly the distributive De Morgan lattices
pub mod Sound  -- the operations of a part that passes every test obey the laws
