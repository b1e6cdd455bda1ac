-- The rounds of a fixpoint. Rests on Node, valuer_maps' Maps, theory's Fixpoint.
--   Turned: a list holds what r rounds give
--   turned_none, turned_more: no round, and one more
--   turned_all, turned_still: the last round that is needed, and one that changes nothing, give the fixpoint
use Prim.Native.Nat.{ℕ, zero, suc, ◌≤◌, ◌<◌}
use mathlib.Core.Path.{◌≡◌, sym, ◌∙◌}
use mathlib.Core.Bool.{true}
use mathlib.Core.List.{List}
use native.Mathlib.Omega.{arith}
use borrow.Author.Tests.{eqb-true}
use lib.Dec.{eqb}
use lib.ListN.{get_or, replicate}
use Rattle.theory.proofs.Fixpoint.{body_cong, iterate_stays}
use Rattle.theory.specs.Formula.{Formula}
use Rattle.theory.specs.Part.{model_of}
use Rattle.theory.specs.Test.{all_below}
use Rattle.theory.specs.TestLaws.{all_at}
use Rattle.theory.specs.Value.{iterate, bind, eval}
use Rattle.elements.specs.Words.{ops_in, Coded}
use Rattle.elements.specs.declared.Lattice.{Lattice}
use Rattle.valuer_maps.specs.Code.{slot_of}
use Rattle.valuer_maps.specs.Maps.{MapOf, map_as, map_same}
use Rattle.valuer.specs.Node.{FormulaAt, SlotsHold, rounds, round_limit, Node, Iterated}

-- ---- a map under one more binder

-- the nearest list holds the new binder's map, the others move one binder out
bind_holds : {w : List ℕ} {l : Lattice} {n : ℕ} {x near mid far : List ℕ} {d : ℕ} {e : ℕ → ℕ → ℕ} {g : ℕ → ℕ}
    → suc d ≤ 3 → MapOf w l g n x → SlotsHold w l n near mid far d e → SlotsHold w l n x near mid (suc d) (bind g e)
unfolding slot_of bind
bind_holds {w} {l} {n} {x} {near} {mid} {far} {d} {e} {g} b u h = record { at = go }
  where
    go : (v : ℕ) → v < suc d → MapOf w l (bind g e v) n (slot_of x near mid v)
    go zero k = u
    go (suc zero) k = h.at 0 (omega arith)
    go (suc (suc zero)) k = h.at 1 (omega arith)
    go (suc (suc (suc v))) k = absurd (omega arith)

-- ---- rounds

-- the body φ applied r times, and one more time to a map
abbrev turns : List ℕ → Lattice → List ℕ → ℕ → Formula → (ℕ → ℕ → ℕ) → ℕ → ℕ → ℕ
turns w l m r φ e a = rounds (ops_in w l) (model_of m) r (round_limit l m) φ e a

abbrev once : List ℕ → Lattice → List ℕ → Formula → (ℕ → ℕ → ℕ) → (ℕ → ℕ) → ℕ → ℕ
once w l m φ e x = eval (ops_in w l) (model_of m) (round_limit l m) φ (bind x e)

-- x is what r rounds give, whatever body stands at the place, from the element whose code is `start`
pub record Turned (w : List ℕ) (l : Lattice) (m f : List ℕ) (at : ℕ) (near mid : List ℕ) (start r : ℕ) (x : List ℕ) : Type 0 where
  pub map : (d : ℕ) (φ : Formula) (e : ℕ → ℕ → ℕ) (far : List ℕ) (a : ℕ) → FormulaAt f at (suc d) (get_or m 1 0) φ
      → SlotsHold w l (get_or m 0 0) near mid far d e → MapOf w l (λ q. a) (get_or m 0 0) (replicate 64 start)
      → MapOf w l (turns w l m r φ e a) (get_or m 0 0) x

module _ {w : List ℕ} {l : Lattice} {m f : List ℕ} {at : ℕ} {near mid : List ℕ} {start : ℕ} where
  pub turned_none : {r : ℕ} → r ≡ 0 → Turned w l m f at near mid start r (replicate 64 start)
  unfolding iterate
  turned_none z = rw z (record { map = λ d φ e far a s h u. u })

  -- what the body's map is after r rounds
  module _ {r i : ℕ} {x v : List ℕ} (h : Turned w l m f at near mid start r x) (n : Node w l m f at x near mid v i) where
    turn : (d : ℕ) (φ : Formula) (e : ℕ → ℕ → ℕ) (far : List ℕ) (a : ℕ) → FormulaAt f at (suc d) (get_or m 1 0) φ
        → SlotsHold w l (get_or m 0 0) near mid far d e → MapOf w l (λ q. a) (get_or m 0 0) (replicate 64 start)
        → MapOf w l (once w l m φ e (turns w l m r φ e a)) (get_or m 0 0) v
    turn d φ e far a s k u = n.map (suc d) φ _ s (bind_holds (omega (arith, s.nested)) (h.map d φ e far a s k u) k)

    pub turned_more : (k : ℕ) → k ≡ suc r → Turned w l m f at near mid start k v
    unfolding iterate
    turned_more k z = rw z (record { map = turn })

    -- the last round that is needed
    pub turned_all : r ≡ round_limit l m → Iterated w l m f at near mid start x i
    turned_all z = record { next = n.next; map = λ d φ e far a s k u. rw z at (h.map d φ e far a s k u) }

    -- a round that changes nothing
    pub turned_still : Coded w l → r ≤ round_limit l m → (k : ℕ) → get_or m 0 0 ≤ k → all_below k (λ q. eqb (get_or v q 0) (get_or x q 0)) ≡ true
        → Iterated w l m f at near mid start v i
    unfolding iterate
    turned_still c b k y z = record {
      next = n.next;
      map = λ d φ e far a s o u.
          let more = turn d φ e far a s o u in
          let same : (q : ℕ) → q < get_or m 0 0 → once w l m φ e (turns w l m r φ e a) q ≡ turns w l m r φ e a q =
          λ q j. map_same c more (h.map d φ e far a s o u) q j (eqb-true _ _ (all_at k _ z q (omega arith))) in
          let stays = iterate_stays (ops_in w l) (model_of m) (once w l m φ e) (body_cong (ops_in w l) (model_of m) (round_limit l m) d φ s.is_closed e) (λ i. a) r same (round_limit l m) b in
          map_as more (λ q j. same q j ∙ sym (stays q j));
    }
