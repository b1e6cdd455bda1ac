-- The model part: what it gets, then which parts are accepted and where their values stand.
-- ---- what a reader must believe
pub mod Reading  -- when a model part is accepted, what the check answers, and where values stand
-- ---- theorems, and the definitions of those that stand in proofs/
pub mod Accepted  -- a part is accepted exactly when it has its shape and every value is an element
pub mod Examples  -- the models of the worked examples are accepted
-- ---- for the code
pub mod Places  -- rows of values lie within the part
pub mod Unique  -- `ModelShape` has one proof at most
