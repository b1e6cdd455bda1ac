-- What a part of the right form lets the code read: sizes, places and bytes. Rests on theory's Part, Panel, PanelTable, Reading, Accepted.
--   part_panel, part_explicit: which part the bytes give
--   form_explicit, form-out, form_panel, form_least: what the form says of the bytes
--   form-complements, form-last: the tests of an explicit part, one after the other; square_le: n · n is at most 4,096
--   OrderEntry, order_at: where an order entry stands, and what it is; explicit_complement: the same of a complement
--   panel_at, panel_complement: the panel's
use Rattle.std.specs.Prelude.{ℕ, zero, suc, ◌+◌, ◌*◌, ◌-◌, ◌/◌, ◌%◌, ◌≤◌, ◌<◌, ◌≡◌, refl, Bool, false, List, eqb, length, get_or}
use Rattle.std.proofs.Math.Path.{ap}
use Rattle.std.proofs.Common.{◌∙◌, suc-mul, mul-le-mul_right, mul-le-mul, arith}
use Rattle.std.proofs.Math.Bool.{true}
use borrow.Author.Tests.{eqb-true, lt-ltb, le-leb, eq-eqb}
use Rattle.std.proofs.Math.Dec.{ltb}
use Rattle.theory.specs.Part.{explicit_part}
use Rattle.theory.specs.Simulation.{indicator}
use Rattle.theory.specs.Test.{all_below}
use Rattle.theory.specs.TestLaws.{and_l, not_passed, false_true, all_in}
use Rattle.lattice.specs.Panel.{panel_part}
use Rattle.lattice.specs.PanelTable.{panel_entry}
use Rattle.lattice.specs.Reading.{is_panel, lattice_of, explicit_form, lattice_form}
use Rattle.lattice.specs.Conditions.{ExplicitForm}
use Rattle.lattice.specs.Numbered.{explicit_out}

-- n² for n up to 64
pub square_le : (n : ℕ) → n ≤ 64 → n * n ≤ 4096
square_le n l = mul-le-mul {n₂ = 64} {m₂ = 64} l l

panel_length : (b : List ℕ) → is_panel b ≡ true → length b ≡ 1
unfolding is_panel
panel_length b p = eqb-true _ _ (and_l (eqb (length b) 1) _ p)

module _ (b : List ℕ) where
  pub part_panel : is_panel b ≡ true → lattice_of b ≡ panel_part
  unfolding lattice_of
  part_panel p = rw p

  pub part_explicit : is_panel b ≡ false → lattice_of b ≡ explicit_part b
  unfolding lattice_of
  part_explicit p = rw p

  pub form_explicit : lattice_form b ≡ true → is_panel b ≡ false → ExplicitForm (get_or b 0 0) b
  unfolding lattice_form
  form_explicit f p = explicit_out _ b (rw p at f)

  pub form_panel : is_panel b ≡ true → lattice_form b ≡ true
  unfolding lattice_form
  form_panel p = rw p

  pub form_least : lattice_form b ≡ true → 0 < length b
  form_least f = go (is_panel b) refl
    where
      go : (t : Bool) → is_panel b ≡ t → 0 < length b
      go true p = omega (arith, panel_length b p)
      go false p = omega (arith, (form_explicit f p).exact)

  -- the tests of an explicit part, one after the other; n is its first byte
  module _ (n : ℕ) (p : is_panel b ≡ false) (e : n ≡ get_or b 0 0) where
    pub form-out : lattice_form b ≡ true → ExplicitForm n b
    form-out f = rw e (form_explicit f p)

    pub form-complements : all_below n (λ i. ltb (get_or b (1 + i) 0) (get_or b 0 0)) ≡ false → lattice_form b ≡ false
    form-complements h = not_passed _ (λ f. false_true h (all_in n _ (λ i l. lt-ltb (get_or b (1 + i) 0) (get_or b 0 0) (rw (← e) ((form-out f).complements i l)))))

    pub form-last : 0 < n → n ≤ 64 → length b ≡ 1 + n + n * n → all_below n (λ i. ltb (get_or b (1 + i) 0) (get_or b 0 0)) ≡ true → lattice_form b ≡ all_below (n * n) (λ i. ltb (get_or b (1 + n + i) 0) 2)
    unfolding lattice_form explicit_form
    form-last l m x h =
        let h2 : all_below n (λ i. ltb (get_or b (1 + i) 0) n) ≡ true = ap (λ k. all_below n (λ i. ltb (get_or b (1 + i) 0) k)) e ∙ h in
        rw (p, ← e, le-leb 1 n l, le-leb n 64 m, eq-eqb _ _ x, h2)

-- ---- one entry of the order

-- a byte that is 0 or 1
bit : (x : ℕ) → x < 2 → x ≡ indicator (eqb x 1)
bit zero l = refl
bit (suc zero) l = refl
bit (suc (suc x)) l = absurd (omega arith)

-- where the order entry (i, j) of an explicit part stands, and what it is
pub record OrderEntry (b : List ℕ) (n i j : ℕ) : Type 0 where
  pub product : i * n ≤ 4096
  pub inside : 1 + n + (i * n + j) < length b
  pub value : get_or b (1 + n + (i * n + j)) 0 ≡ indicator ((lattice_of b).order i j)

pub order_at : (b : List ℕ) (n i j : ℕ) → lattice_form b ≡ true → is_panel b ≡ false → n ≡ get_or b 0 0 → i < (lattice_of b).size → j < (lattice_of b).size → OrderEntry b n i j
order_at b n i j f p e l m =
    let w : ExplicitForm n b = rw e (form_explicit b f p) in
    let q = part_explicit b p in
    let l2 : i < n = rw (e, ← ap (λ P. P.size) q) l in
    let m2 : j < n = rw (e, ← ap (λ P. P.size) q) m in
    let s = square_le n w.most in
    let c : i * n + j < n * n = omega (arith, suc-mul i n, mul-le-mul_right n l2) in
    let v : eqb (get_or b (1 + n + (i * n + j)) 0) 1 ≡ (lattice_of b).order i j = rw (q, ← e) in
    record {
      product = omega arith;
      inside = omega (arith, w.exact);
      value = bit _ (w.orders _ c) ∙ ap indicator v;
    }

pub panel_at : (b : List ℕ) (i j : ℕ) → is_panel b ≡ true → i < (lattice_of b).size → j < (lattice_of b).size → (i * 27 + j < 729) × (panel_entry (i * 27 + j) ≡ indicator ((lattice_of b).order i j))
panel_at b i j p l m =
    let q = part_panel b p in
    let l2 : i < 27 = rw (← ap (λ P. P.size) q) l in
    let m2 : j < 27 = rw (← ap (λ P. P.size) q) m in
    let x : (i * 27 + j) / 27 ≡ i = omega arith in
    let y : (i * 27 + j) % 27 ≡ j = omega arith in
    (omega arith, rw (x, y, q))

-- ---- one complement

pub panel_complement : (b : List ℕ) (a : ℕ) → is_panel b ≡ true → a < (lattice_of b).size → (a ≤ 26) × (26 - a ≡ (lattice_of b).complement a)
panel_complement b a p l =
    let q = part_panel b p in
    let l2 : a < 27 = rw (← ap (λ P. P.size) q) l in
    (omega arith, rw q)

pub explicit_complement : (b : List ℕ) (a : ℕ) → lattice_form b ≡ true → is_panel b ≡ false → a < (lattice_of b).size → (1 + a < length b) × (get_or b (1 + a) 0 ≡ (lattice_of b).complement a)
explicit_complement b a f p l =
    let q = part_explicit b p in
    let l2 : a < get_or b 0 0 = rw (← ap (λ P. P.size) q) l in
    (omega (arith, (form_explicit b f p).exact), rw q)
