-- Rounds that are worked until one equals the one before: what a table holds after each of them and at the end.
-- Rests on theory's Simulation, Rounds and Sharp, and rounds' Round.
--   Startable, tops_start, Settles, text_of_table, Settleable, WroteSettled: the terms of the code's contracts
--   AtRound, at_start, next-round: a table that holds round r, every round up to r having changed something; rounds-few: r is bounded
--   top_start: a table that is all top holds round 0
--   settled-done, settled-read: what it holds when a round changed nothing; settled_text: its text
use Rattle.std.specs.Prelude.{ℕ, suc, ◌+◌, ◌*◌, ◌-◌, ◌≤◌, ◌<◌, ◌≡◌, Bool, true, false, List, length, replicate}
use Rattle.std.proofs.Common.{sym, subst, ◌∙◌, ⊎_elim, eq-or-lt_of_le, add-one, arith}
use Rattle.std.proofs.lemmas.List.{length-replicate, get_or-replicate}
use Rattle.theory.specs.Lattice.{Ops, Laws}
use Rattle.theory.specs.Model.{Model}
use Rattle.theory.specs.Part.{model_of}
use Rattle.theory.specs.Simulation.{F, round, SameTable, FirstUnchanged}
use Rattle.theory.proofs.Fixpoint.{chain-size}
use Rattle.theory.proofs.Rounds.{F_mono, F_element, exists-T, T_unique}
use Rattle.theory.proofs.Sharp.{T_sharp}
use Rattle.theory.specs.TestLaws.{false_true}
use Rattle.elements.specs.declared.algebra.Algebra.{Algebra}
use Rattle.elements.specs.Words.{ops_in}
use Rattle.model.specs.Places.{prod_le}
use Rattle.entries.specs.Table.{table_of}
use Rattle.entries.specs.declared.table.Models.{Models}
use Rattle.entries.specs.declared.table.Table.{Table}
use Rattle.rounds.specs.Round.{F_reads, top_round, RoundSoFar, RoundDone, round_done}
use Rattle.listing.specs.Text.{table_text}
use Rattle.listing.specs.Entries.{table_cong}
use Rattle.listing.specs.declared.writing.Text.{Text}
use Rattle.listing.specs.Lines.{Room, Puts}

module _ (O : Ops ℕ) (M₁ M₂ : Model ℕ) (s : List ℕ) where
  -- s holds round r, and every round up to r differs from the one before
  pub record AtRound (r : ℕ) : Type 0 where
    pub holds : SameTable O M₁ M₂ (table_of s M₂.states) (round O M₁ M₂ r)
    pub changing : (t : ℕ) → 0 < t → t ≤ r → SameTable O M₁ M₂ (round O M₁ M₂ t) (round O M₁ M₂ (t - 1)) → ⊥

  -- T is the first round that equals the one before, and s holds it
  pub record SettledAt (T : ℕ) : Type 0 where
    pub is_T : FirstUnchanged O M₁ M₂ T
    pub holds : SameTable O M₁ M₂ (table_of s M₂.states) (round O M₁ M₂ T)

-- round 0, before any round is worked
pub at_start : (O : Ops ℕ) (M₁ M₂ : Model ℕ) (s : List ℕ) → SameTable O M₁ M₂ (table_of s M₂.states) (round O M₁ M₂ 0) → AtRound O M₁ M₂ s 0
at_start O M₁ M₂ s h = record { holds = h; changing = λ t p l e. omega arith }

-- a table whose bytes are all top holds round 0
pub top_start : (O : Ops ℕ) (M₁ M₂ : Model ℕ) (n : ℕ) → M₁.states * M₂.states ≤ n → SameTable O M₁ M₂ (table_of (replicate n O.top) M₂.states) (round O M₁ M₂ 0)
top_start O M₁ M₂ n l = top_round O M₁ M₂ (F O M₁ M₂) (replicate n O.top) (λ i k. get_or-replicate n i O.top 0 (omega arith))

module _ {O : Ops ℕ} {M₁ M₂ : Model ℕ} {s : List ℕ} {r : ℕ} where
  -- no more rounds differ than a table has entries
  pub rounds-few : Laws O → AtRound O M₁ M₂ s r → r ≤ M₁.states * M₂.states
  rounds-few L h =
      let w = exists-T L M₁ M₂ (F O M₁ M₂) (λ S U. F_mono L M₁ M₂) (F_element L M₁ M₂) O.size (chain-size L) in
      let x : ¬ (w.0 ≤ r) = λ l. h.changing w.0 w.2.above0 l w.2.unchanged in
      omega (arith, T_sharp L M₁ M₂ w.0 w.2)

  -- one round more
  module _ {before out : List ℕ} {changed : Bool} (h : AtRound O M₁ M₂ s r) (u : RoundSoFar M₁ M₂ (F O M₁ M₂) (table_of s M₂.states) before M₁.states out changed) where
    done : RoundDone O M₁ M₂ (F O M₁ M₂) r out changed
    done = round_done O (F_reads O M₁ M₂) r h.holds u

    back : suc r - 1 ≡ r
    back = omega arith

    -- it changed something
    next-at : changed ≡ true → AtRound O M₁ M₂ out (suc r)
    next-at e = record { holds = done.holds; changing = earlier }
      where
        earlier : (t : ℕ) → 0 < t → t ≤ suc r → SameTable O M₁ M₂ (round O M₁ M₂ t) (round O M₁ M₂ (t - 1)) → ⊥
        earlier t p l same =
            ⊎_elim
            (λ (q : t ≡ suc r). false_true (done.unchanged.1 (subst (λ (n : ℕ). SameTable O M₁ M₂ (round O M₁ M₂ (suc r)) (round O M₁ M₂ n)) back (subst (λ (n : ℕ). SameTable O M₁ M₂ (round O M₁ M₂ n) (round O M₁ M₂ (n - 1))) q same))) e)
            (λ (q : t < suc r). h.changing t p (omega arith) same)
            (eq-or-lt_of_le l)

    pub next-round : changed ≡ true → AtRound O M₁ M₂ out (r + 1)
    next-round e = rw add-one (next-at e)

    -- it changed nothing: both tables hold the last round
    first-unchanged : changed ≡ false → FirstUnchanged O M₁ M₂ (suc r)
    first-unchanged e =
        record {
          above0 = omega arith;
          unchanged = subst (λ (n : ℕ). SameTable O M₁ M₂ (round O M₁ M₂ (suc r)) (round O M₁ M₂ n)) (sym back) (done.unchanged.0 e);
          least = λ t p l. h.changing t p (omega arith);
        }

    pub settled-done : changed ≡ false → SettledAt O M₁ M₂ out (r + 1)
    settled-done e = rw add-one (record { is_T = first-unchanged e; holds = done.holds })

    pub settled-read : changed ≡ false → SettledAt O M₁ M₂ s (r + 1)
    settled-read e = rw add-one (record { is_T = first-unchanged e; holds = λ q₁ l q₂ m. h.holds q₁ l q₂ m ∙ sym (done.unchanged.0 e q₁ l q₂ m) })

-- the text of a settled table is that of round T
pub settled_text : {O : Ops ℕ} {M₁ M₂ : Model ℕ} {s : List ℕ} {r : ℕ} → SettledAt O M₁ M₂ s r → (T : ℕ) → FirstUnchanged O M₁ M₂ T → table_text O M₁ M₂ r (table_of s M₂.states) ≡ table_text O M₁ M₂ T (round O M₁ M₂ T)
settled_text {O} {M₁} {M₂} {s} {r} h T f =
    let e : T ≡ r = T_unique O M₁ M₂ (F O M₁ M₂) T r f h.is_T in
    rw e (table_cong O M₁ M₂ (table_of s M₂.states) (round O M₁ M₂ r) h.holds r)

-- ---- for contracts

-- the operations of a lattice, and two models, as the code holds them
abbrev pub operations : Algebra → Ops ℕ
operations a = ops_in a.codes.now.words a.lattice

abbrev pub model_1 : Models → Model ℕ
model_1 m = model_of m.first.bytes.now

abbrev pub model_2 : Models → Model ℕ
model_2 m = model_of m.second.bytes.now

-- a table s of two models, which holds round 0, and room in another
pub record Startable (a : Algebra) (m : Models) (s other : List ℕ) : Type 0 where
  pub held : (model_1 m).states * (model_2 m).states ≤ length s
  pub room : (model_1 m).states * (model_2 m).states ≤ length other
  pub laws : Laws (operations a)
  pub start : SameTable (operations a) (model_1 m) (model_2 m) (table_of s (model_2 m).states) (round (operations a) (model_1 m) (model_2 m) 0)

-- two tables of 4,096 bytes, all top
pub tops_start : (a : Algebra) (m : Models) → Laws (operations a) → Startable a m (replicate 4096 a.lattice.top.0) (replicate 4096 a.lattice.top.0)
tops_start a m L =
    let n = prod_le _ _ 64 64 m.first.shape.states_most m.second.shape.states_most in
    let f : (model_1 m).states * (model_2 m).states ≤ length (replicate 4096 a.lattice.top.0) = rw length-replicate n in
    record { held = f; room = f; laws = L; start = top_start (operations a) (model_1 m) (model_2 m) 4096 n }

-- the first table comes to hold round T, the first that equals the one before
abbrev pub Settles : Algebra → Models → List ℕ → ℕ → Type 0
Settles a m s T = SettledAt (operations a) (model_1 m) (model_2 m) s T

-- the text of round r with the bytes of a table
abbrev pub text_of_table : Algebra → Table → ℕ → List ℕ
text_of_table a t r = table_text (operations a) (model_1 t.models) (model_2 t.models) r (table_of t.bytes.now (model_2 t.models).states)

-- the text of round T
abbrev pub text_of_round : Algebra → Models → ℕ → List ℕ
text_of_round a m T = table_text (operations a) (model_1 m) (model_2 m) T (round (operations a) (model_1 m) (model_2 m) T)

-- the laws of the lattice, and room in the text t for round T, the first that equals the one before
pub record Settleable (a : Algebra) (m : Models) (t : Text) : Type 0 where
  pub laws : Laws (operations a)
  pub room : (T : ℕ) → FirstUnchanged (operations a) (model_1 m) (model_2 m) T → Room t (text_of_round a m T)

-- round T is put into the text t, which became u
abbrev pub WroteSettled : Algebra → Models → Text → Text → Type 0
WroteSettled a m t u = (T : ℕ) → FirstUnchanged (operations a) (model_1 m) (model_2 m) T → Puts t (text_of_round a m T) u
