-- The invariant of demand 3, 'this desk is what the content c gives after s accepted steps', and that an accepted opening starts it.
-- Rests on Case, Refused, Moved, RulesLaws, rounds' Round, theory's Lowerings, casefile's Accepted and Content.
-- Here stand the definitions; the theorems are in proofs/Stands.
--   Known: the content of an accepted case, and its T; known-sound, sizes_most, some_states: what it gives
--   SizesAre: the standing's sizes; BeforeT, AtT, Progress: before T, at T, and what holds of both; DeskBeforeT, DeskAtT, ProgressAt: the same of a desk
--   Stands: the invariant; opening_starts: an accepted opening starts it
use Rattle.std.specs.Prelude.{ℕ, ◌+◌, ◌*◌, ◌≤◌, ◌<◌, ◌≡◌, true, false, ◌⊎◌, List, ◌++◌, get_or}
use Rattle.std.proofs.Math.ListN.{length}
use Rattle.theory.specs.Lattice.{Element}
use Rattle.theory.specs.Simulation.{SameTable}
use Rattle.casefile.specs.Reading.{Content, content, case_reading}
use Rattle.entries.specs.Table.{table_of}
use Rattle.rounds.specs.Round.{RoundSoFar}
use Rattle.desk.specs.Desk.{Standing, Desk, whole_table, other_table}
use Rattle.desk.specs.Case.{ops, model1, model2, N1, N2, table_size, operator, round_in, lowerings_in, IsT, case_bytes}

-- the content of an accepted case, and its T
pub record Known (c : Content) (T : ℕ) : Type 0 where
  pub case : List ℕ
  pub reads : case_reading case ≡ content c
  pub is_T : IsT c T

-- the standing's sizes, which no step changes
abbrev pub SizesAre : Content → Standing → Type 0
SizesAre c x = (x.states1 ≡ N1 c) × (x.states2 ≡ N2 c)

module _ (c : Content) (T : ℕ) where
  -- before T: s is round · N1 + row, and the rows below the next row of the next round stand in the other table
  pub record BeforeT (s : ℕ) (x : Standing) (whole other : List ℕ) : Type 0 where
    pub unsettled : x.settled ≡ false
    pub below : x.round < T
    pub row_below : x.row < N1 c
    pub count : s ≡ x.round * N1 c + x.row
    pub before : List ℕ
    pub so_far : RoundSoFar (model1 c) (model2 c) (operator c) (table_of whole (N2 c)) before x.row other x.changed

  -- at T
  pub record AtT (s : ℕ) (x : Standing) : Type 0 where
    pub is_settled : x.settled ≡ true
    pub at_T : x.round ≡ T
    pub row_0 : x.row ≡ 0
    pub unchanged : x.changed ≡ false
    pub enough : T * N1 c ≤ s

  -- the whole table is the round's, both are long enough, and their entries are elements; the lowerings are those of the rounds up to it
  pub record Progress (s : ℕ) (x : Standing) (whole other : List ℕ) : Type 0 where
    pub whole_long : 4096 ≤ length whole
    pub other_long : 4096 ≤ length other
    pub whole_elements : (i : ℕ) → i < table_size c → Element (ops c) (get_or whole i 0)
    pub other_elements : (i : ℕ) → i < table_size c → Element (ops c) (get_or other i 0)
    pub shown : SameTable (ops c) (model1 c) (model2 c) (table_of whole (N2 c)) (round_in c x.round)
    pub lowerings_are : x.lowerings ≡ lowerings_in c x.round
    pub place : BeforeT s x whole other ⊎ AtT s x

  -- the same of a desk's standing and tables
  abbrev pub DeskBeforeT : ℕ → Desk → Type 0
  DeskBeforeT s d = BeforeT s d.standing (whole_table d) (other_table d)

  abbrev pub DeskAtT : ℕ → Desk → Type 0
  DeskAtT s d = AtT s d.standing

  abbrev pub ProgressAt : ℕ → Desk → Type 0
  ProgressAt s d = Progress s d.standing (whole_table d) (other_table d)

  -- 'this desk is what the content c gives after s accepted steps': its store begins with the gapless case, and any bytes may follow
  pub record Stands (s : ℕ) (d : Desk) : Type 0 where
    pub known : Known c T
    pub rest : List ℕ
    pub store_is : d.store ≡ case_bytes c ++ rest
    pub store_long : 24576 ≤ length d.store
    pub sizes : SizesAre c d.standing
    pub progress : ProgressAt s d
