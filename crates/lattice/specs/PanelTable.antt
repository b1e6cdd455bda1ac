-- The panel's order: 'It is held as a table of 729 order entries, and the rule is shown for the whole table.' Rests on Panel.
--   panel_entry: an entry by the rule; PanelOrder: bytes that are these 729 entries, which `panel::order` ensures of its constant
--   panel_entry_exactly: then entry 27·i + j is 1 exactly when each of the three places of i is at most that of j
use Rattle.std.specs.Prelude.{ℕ, ◌+◌, ◌*◌, ◌/◌, ◌%◌, ◌≤◌, ◌<◌, ◌≡◌, refl, Bool, true, false, ◌&&◌, ◌↔◌, List, leb, get_or}
use Rattle.std.proofs.Common.{sym, ◌∙◌, arith, le-leb, leb-true}
use Rattle.theory.specs.Simulation.{indicator}
use Rattle.theory.specs.TestLaws.{and_in, and_l, and_r, false_true}
use Rattle.lattice.specs.Panel.{panel_order}

-- the panel's order, entry by entry
abbrev pub panel_entry : ℕ → ℕ
panel_entry k = indicator (panel_order (k / 27) (k % 27))

-- these bytes are the panel's order
pub record PanelOrder (b : List ℕ) : Type 0 where
  pub at : (k : ℕ) → k < 729 → get_or b k 0 ≡ panel_entry k

-- 'The order is that of all three places', a, b and c of the number 9a + 3b + c
abbrev pub PlacesAtMost : ℕ → ℕ → Type 0
PlacesAtMost i j = (i / 9 ≤ j / 9) × (i / 3 % 3 ≤ j / 3 % 3) × (i % 3 ≤ j % 3)

places_exactly : (i j : ℕ) → (panel_order i j ≡ true) ↔ PlacesAtMost i j
unfolding panel_order
places_exactly i j = (
  λ t.
      let two = and_l (leb (i / 9) (j / 9) && leb (i / 3 % 3) (j / 3 % 3)) (leb (i % 3) (j % 3)) t in (
        leb-true _ _ (and_l (leb (i / 9) (j / 9)) (leb (i / 3 % 3) (j / 3 % 3)) two),
        leb-true _ _ (and_r (leb (i / 9) (j / 9)) (leb (i / 3 % 3) (j / 3 % 3)) two),
        leb-true _ _ (and_r (leb (i / 9) (j / 9) && leb (i / 3 % 3) (j / 3 % 3)) (leb (i % 3) (j % 3)) t),
      ),
  λ h. and_in _ _ (and_in _ _ (le-leb _ _ h.0) (le-leb _ _ h.1)) (le-leb _ _ h.2),
)

indicator_exactly : (x : Bool) → (indicator x ≡ 1) ↔ (x ≡ true)
indicator_exactly true = (λ e. refl, λ e. refl)
indicator_exactly false = (λ e. absurd (let z : ◌≡◌ {A = ℕ} 0 1 = e in omega arith), λ e. absurd (false_true refl e))

pub panel_entry_exactly : (bytes : List ℕ) → PanelOrder bytes → (i j : ℕ) → i < 27 → j < 27 → (get_or bytes (27 * i + j) 0 ≡ 1) ↔ PlacesAtMost i j
panel_entry_exactly bytes h i j l m =
    let x : (27 * i + j) / 27 ≡ i = omega arith in
    let y : (27 * i + j) % 27 ≡ j = omega arith in
    let e : get_or bytes (27 * i + j) 0 ≡ indicator (panel_order i j) = rw (x, y) at (h.at (27 * i + j) (omega arith)) in
    (λ p. (places_exactly i j).0 ((indicator_exactly (panel_order i j)).0 (sym e ∙ p)), λ p. e ∙ (indicator_exactly (panel_order i j)).1 ((places_exactly i j).1 p))
