pub mod Folds  -- finite meets and joins by codes; joins that are top and meets that are bottom stay so
pub mod Coded  -- meets, joins and complements by codes are elements, and have these codes
