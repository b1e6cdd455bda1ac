pub mod Accepted  -- a part is accepted exactly when it has its shape and every value is an element
