-- What the export of the rest of a round says. Rests on Numbers and desk's RoundLeft.
use Rattle.std.specs.Prelude.{◌≡◌}
use Rattle.std.proofs.Common.{sym, ap, ◌∙◌}
use Rattle.desk.specs.Desk.{Desk, Reply}
use Rattle.desk.specs.Perform.{After}
use Rattle.desk.specs.RoundLeft.{finished, Finishes}
use Rattle.exports.specs.declared.Answer.{Answer}
use Rattle.exports.specs.Numbers.{numbers}

-- on the desk d it is answered with these numbers, and leaves the desk e: standing, store and both tables
pub record FinishedInNumbers (d : Desk) (x : Answer) (e : Desk) : Type 0 where
  pub answer : x ≡ numbers (finished d).reply
  pub after : e ≡ (finished d).desk

-- from what the call does
pub finished_in_numbers : (d : Desk) (x : Reply) (e : Desk) (a : Answer) → Finishes d x e → a ≡ numbers x → FinishedInNumbers d a e
finished_in_numbers d x e a p q = record { answer = q ∙ sym (ap (λ (r : After). numbers r.reply) p); after = sym (ap (λ (r : After). r.desk) p) }
