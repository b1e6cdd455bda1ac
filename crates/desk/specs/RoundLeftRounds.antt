-- Rounds by the rest of a round: after an accepted opening, n of these calls give round n, and T of them settle the desk.
-- Rests on RoundLeftLaws, Stands, Next and Settling.
-- Here stand the definitions; the theorems are in proofs/RoundLeftRounds.
use Prim.Native.Nat.{ℕ}
use Rattle.std.specs.Prelude.{List, ◌∷◌, replicate}
use Rattle.desk.specs.Desk.{Desk, Call}
use Rattle.desk.specs.RoundLeft.{Act, run_acts}

-- the desk d after an opening with the case b, and n calls of the rest of a round
abbrev pub after_rests : List ℕ → ℕ → Desk → Desk
after_rests b n d = run_acts (Act.One (Call.Open b) ∷ replicate n Act.Rest) d
