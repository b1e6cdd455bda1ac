-- The words of a part's order, from its bytes: an explicit part, and the panel. Rests on theory's Part, lattice's Form and Accepted, Rows, Tests.
--   panel_bytes, panel_down: the panel's table of 729 entries; explicit_bytes, explicit_down: an explicit part's bytes
--   element-within: a number read as an element of a part
use Rattle.std.specs.Prelude.{ℕ, ◌+◌, ◌*◌, ◌/◌, ◌%◌, ◌<◌, ◌≡◌, true, false, List, eqb, length, get_or}
use Rattle.std.proofs.Common.{ap, ap₂, ◌∙◌, arith}
use Rattle.theory.specs.Lists.{Filled}
use Rattle.theory.specs.Loop.{indicator_most}
use Rattle.theory.specs.Part.{LatticePart, element}
use Rattle.lattice_order.specs.Searched.{indicator-test, element_lt}
use Rattle.lattice_order.specs.Ordered.{Formed}
use Rattle.lattice.specs.Panel.{panel_order}
use Rattle.lattice.specs.Reading.{is_panel, lattice_of}
use Rattle.lattice.specs.Conditions.{ExplicitForm}
use Rattle.lattice.specs.Form.{part_panel, part_explicit}
use Rattle.lattice.specs.PanelTable.{PanelOrder}
use Rattle.elements.specs.Bits.{bits_cong}
use Rattle.lattice.specs.Rows.{Bytes, down_in}
use Rattle.lattice_codes.specs.Tests.{down_of}

-- ---- the panel

pub panel_bytes : (s : List ℕ) → length s ≡ 729 → PanelOrder s → Bytes s 0 27
panel_bytes s e p =
    record {
      fits = omega arith;
      small = λ i l. let z : 0 + i ≡ i = omega arith in rw z (omega (arith, p.at i l, indicator_most (panel_order (i / 27) (i % 27))));
    }

pub panel_down : (b s out : List ℕ) → is_panel b ≡ true → PanelOrder s → Filled (down_in s 0 27) 27 out → Filled (down_of (lattice_of b)) (lattice_of b).size out
panel_down b s out p w f = rw (part_panel b p) (record { at = λ a l. f.at a l ∙ bits_cong 27 _ _ (λ i k. entry a i l k) })
  where
    entry : (a i : ℕ) → a < 27 → i < 27 → eqb (get_or s (0 + i * 27 + a) 0) 1 ≡ panel_order i a
    entry a i l k =
        let z : 0 + i * 27 + a ≡ i * 27 + a = omega arith in
        let x : (i * 27 + a) / 27 ≡ i = omega arith in
        let y : (i * 27 + a) % 27 ≡ a = omega arith in
        ap (λ (j : ℕ). eqb (get_or s j 0) 1) z ∙ ap (λ (v : ℕ). eqb v 1) (w.at (i * 27 + a) (omega arith)) ∙ indicator-test _ ∙ ap₂ panel_order x y

-- ---- an explicit part

pub explicit_bytes : (b : List ℕ) (n : ℕ) → ExplicitForm n b → Bytes b (1 + n) n
explicit_bytes b n w = record { fits = omega (arith, w.exact); small = w.orders }

pub explicit_down : (b out : List ℕ) (n : ℕ) → is_panel b ≡ false → n ≡ get_or b 0 0 → Filled (down_in b (1 + n) n) n out → Filled (down_of (lattice_of b)) (lattice_of b).size out
explicit_down b out n p e f = rw (part_explicit b p) (rw (← e) (record { at = λ a l. f.at a l ∙ bits_cong n _ _ (λ i k. entry a i) }))
  where
    entry : (a i : ℕ) → eqb (get_or b (1 + n + i * n + a) 0) 1 ≡ eqb (get_or b (1 + n + (i * n + a)) 0) 1
    entry a i = let z : 1 + n + i * n + a ≡ 1 + n + (i * n + a) = omega arith in ap (λ (j : ℕ). eqb (get_or b j 0) 1) z

-- ---- a number as an element

pub element-within : (P : LatticePart) (n k : ℕ) → Formed P → n ≡ P.size → (element n k < P.size) × (element n k < 64)
element-within P n k f e = let l : element n k < n = element_lt n k (omega (arith, f.some)) in (omega arith, omega (arith, f.most))
