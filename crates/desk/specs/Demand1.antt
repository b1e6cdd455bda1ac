-- Demand 1, of every call on every desk; that it holds is `demand1` (Demand1Holds). Rests on Refused, Perform, casefile's Conditions and RefusedAs.
--   Demand1: the demand. A refusal alters nothing, and what it answers: alters_nothing, lent_unchanged, numbered, show_refused
--     which refusal is given, and exactly when: at_11, refused_as (1 to 10, a field for each), at_12, after_12, ranges, only
--     every other input is accepted: case_accepted, open_accepted, other_accepted
--   InStore: a content in the store, and the refusal of the call's own conditions there, if one is broken
use Rattle.std.specs.Prelude.{ℕ, ◌<◌, ◌≡◌, true, false, ◌↔◌, ◌⊎◌, List, []}
use Rattle.std.proofs.Math.Option.{Option, none, some}
use Rattle.refusal.specs.declared.Refusal.{Refusal}
use Rattle.refusal.specs.declared.Refusal.TheVariants.{ShortDesk, SpoiledDesk}
use Rattle.refusal.specs.Number.{number_of, part_of}
use Rattle.casefile.specs.Reading.{Content, refused, content, case_reading}
use Rattle.casefile.specs.Conditions.{CaseOf}
use Rattle.casefile.specs.RefusedAs.{RefusedAs}
use Rattle.desk.specs.Desk.{Desk, Question, Call, Reply, is_open, is_show, call_lent_buffers}
use Rattle.desk.specs.View.{View, view_of}
use Rattle.desk.specs.Refused.{short, Rules, conditions, call_conditions, InRange, refusals_of, OneOf, first_refusal, examined, accepted}
use Rattle.desk.specs.Perform.{perform}

-- a content whose rules the desk obeys, and x is the refusal of the call's own conditions there, if one is broken
abbrev pub InStore : Call → Desk → Option Refusal → Type 0
InStore k d x = (c : Content) × Rules d c × (first_refusal (call_conditions k) (view_of c d) ≡ x)

pub record Demand1 (k : Call) (d : Desk) : Type 0 where
  -- 'a refusal alters nothing'
  pub alters_nothing : (r : Refusal) → examined k d ≡ refused r → (perform k d).desk ≡ d
  pub lent_unchanged : (r : Refusal) → examined k d ≡ refused r → (perform k d).lent ≡ call_lent_buffers k
  -- it gives number and part; 'A refused show returns an empty part and no refusal number.'
  pub numbered : (r : Refusal) → is_show k ≡ false → examined k d ≡ refused r → (perform k d).reply ≡ Reply.Refused (number_of r) (part_of r)
  pub show_refused : (r : Refusal) → is_show k ≡ true → examined k d ≡ refused r → (perform k d).reply ≡ Reply.Shown []
  -- 11 is given exactly when 'the store or a table is shorter than above'
  pub at_11 : (examined k d ≡ refused ShortDesk) ↔ (short d ≡ true)
  -- else open answers 1 to 10 with its part, each exactly when its row of the table applies to the case and no earlier one does
  pub refused_as : (b : List ℕ) → k ≡ Call.Open b → short d ≡ false → RefusedAs (λ n p. (perform k d).reply ≡ Reply.Refused n p) b
  -- the other calls get 12 'when, and only when, one of these is broken', then the refusal of their first condition that is broken, 13 or
  -- 14, and nothing else
  pub at_12 : is_open k ≡ false → (examined k d ≡ refused SpoiledDesk) ↔ ((short d ≡ false) × ((c : Content) → ¬ Rules d c))
  pub after_12 : is_open k ≡ false → (r : Refusal) → 12 < number_of r → (examined k d ≡ refused r) ↔ ((short d ≡ false) × InStore k d (some r))
  pub ranges : (q : Question) (v : View) → (first_refusal (conditions q) v ≡ none) ↔ InRange q v
  pub only : is_open k ≡ false → (r : Refusal) → examined k d ≡ refused r → (r ≡ ShortDesk) ⊎ ((r ≡ SpoiledDesk) ⊎ OneOf r (refusals_of (call_conditions k)))
  -- 'Every input to which no numbered refusal of its call applies is accepted': a case exactly when its directory, lattice, models and
  -- formulas are as document 01 wants them
  pub case_accepted : (b : List ℕ) (c : Content) → (case_reading b ≡ content c) ↔ CaseOf b c
  pub open_accepted : (b : List ℕ) → k ≡ Call.Open b → (accepted k d ≡ true) ↔ ((short d ≡ false) × ((c : Content) × CaseOf b c))
  pub other_accepted : is_open k ≡ false → (accepted k d ≡ true) ↔ ((short d ≡ false) × InStore k d none)
