-- The panel lattice is a distributive De Morgan lattice. Rests on theory's Lattice, lattice_order's Exactly and Agree, Panel, Reading, Accepted, Form.
--   panel_read, panel_accepted: the one byte 0 is the panel lattice, and is accepted
--   PanelBytes: an explicit part with the panel's elements, complements and order
--   panel_bytes_same, panel_bytes_accepted: it has the same operations, and is accepted
use Rattle.std.specs.Prelude.{ℕ, ◌+◌, ◌*◌, ◌-◌, ◌/◌, ◌%◌, min, max, ◌≤◌, ◌<◌, ◌≡◌, refl, Bool, true, false, ◌&&◌, List, [], ◌∷◌, ltb, leb, eqb, length, get_or}
use Rattle.std.proofs.Common.{sym, ap, ap₂, ◌∙◌, le_refl, le_antisymm, arith, ltb-true, lt-ltb, leb-true, le-leb}
use Rattle.theory.specs.Lattice.{Ops, Laws}
use Rattle.theory.proofs.Descent.{all_map}
use Rattle.theory.specs.Simulation.{indicator}
use Rattle.theory.specs.Part.{ops_of, explicit_part}
use Rattle.theory.specs.TestLaws.{and_l, and_r, and_in, all_in}
use Rattle.lattice.specs.Panel.{panel_order, panel_part}
use Rattle.lattice.specs.Reading.{is_panel, lattice_of, lattice_form, accepted, lattice_reading}
use Rattle.lattice_order.specs.Searched.{indicator-test}
use Rattle.theory.specs.Height.{distinct_le}
use Rattle.lattice.specs.Accepted.{lattice_is_accepted}
use Rattle.lattice_order.proofs.Exactly.{ops_lattice}
use Rattle.lattice.specs.Form.{part_explicit, form-last}
use Rattle.lattice_order.specs.Agree.{ops_cong}

-- ---- the operations, digit by digit. Any number is read by its remainder by 27

abbrev high : ℕ → ℕ
high a = a % 27 / 9

abbrev middle : ℕ → ℕ
middle a = a % 27 / 3 % 3

abbrev low : ℕ → ℕ
low a = a % 27 % 3

number : ℕ → ℕ → ℕ → ℕ
number x y z = 9 * x + 3 * y + z

abbrev panel_ops : Ops ℕ
panel_ops =
    record {
      size = 27;
      is_element = λ a. ltb a 27;
      at_most = λ a b. panel_order (a % 27) (b % 27);
      meet = λ a b. number (min (high a) (high b)) (min (middle a) (middle b)) (min (low a) (low b));
      join = λ a b. number (max (high a) (high b)) (max (middle a) (middle b)) (max (low a) (low b));
      neg = λ a. 26 - a % 27;
      top = 26;
      bot = 0;
    }

-- the digits of a number
record Digits (k x y z : ℕ) : Type 0 where
  first : high k ≡ x
  second : middle k ≡ y
  third : low k ≡ z
  small : k < 27

digits : (x y z : ℕ) → x ≤ 2 → y ≤ 2 → z ≤ 2 → Digits (number x y z) x y z
unfolding number
digits x y z l m k = record { first = omega arith; second = omega arith; third = omega arith; small = omega arith }

-- each digit is at most the other's
record EachAtMost (a b : ℕ) : Type 0 where
  first : high a ≤ high b
  second : middle a ≤ middle b
  third : low a ≤ low b

each_in : (a b : ℕ) → high a ≤ high b → middle a ≤ middle b → low a ≤ low b → panel_order (a % 27) (b % 27) ≡ true
unfolding panel_order
each_in a b x y z = and_in _ _ (and_in _ _ (le-leb _ _ x) (le-leb _ _ y)) (le-leb _ _ z)

each_out : (a b : ℕ) → panel_order (a % 27) (b % 27) ≡ true → EachAtMost a b
unfolding panel_order
each_out a b t =
    let both = and_l (leb (high a) (high b) && leb (middle a) (middle b)) _ t in
    record {
      first = leb-true _ _ (and_l (leb (high a) (high b)) _ both);
      second = leb-true _ _ (and_r (leb (high a) (high b)) _ both);
      third = leb-true _ _ (and_r (leb (high a) (high b) && leb (middle a) (middle b)) _ t);
    }

meet-digits : (a b : ℕ) → Digits (panel_ops.meet a b) (min (high a) (high b)) (min (middle a) (middle b)) (min (low a) (low b))
meet-digits a b = digits _ _ _ (omega arith) (omega arith) (omega arith)

join-digits : (a b : ℕ) → Digits (panel_ops.join a b) (max (high a) (high b)) (max (middle a) (middle b)) (max (low a) (low b))
join-digits a b = digits _ _ _ (omega arith) (omega arith) (omega arith)

neg-digits : (a : ℕ) → Digits (26 - a % 27) (2 - high a) (2 - middle a) (2 - low a)
neg-digits a = record { first = omega arith; second = omega arith; third = omega arith; small = omega arith }

-- an element is made of its digits, and two elements with the same digits are the same
whole : (a : ℕ) → a < 27 → a ≡ number (high a) (middle a) (low a)
unfolding number
whole a l = omega arith

same_digits : (a b : ℕ) → a < 27 → b < 27 → EachAtMost a b → EachAtMost b a → a ≡ b
same_digits a b l m u v =
    let first : high a ≡ high b = le_antisymm u.first v.first in
    let second : middle a ≡ middle b = le_antisymm u.second v.second in
    let third : low a ≡ low b = le_antisymm u.third v.third in
    whole a l ∙ ap (λ x. number x (middle a) (low a)) first ∙ ap (λ x. number (high b) x (low a)) second ∙ ap (number (high b) (middle b)) third ∙ sym (whole b m)

-- one digit of three laws
glb_digit : {a b c m : ℕ} → m ≡ min a b → c ≤ a → c ≤ b → c ≤ m
glb_digit e p q = omega arith

dist_digit : (a b c : ℕ) {j k p q r : ℕ} → j ≡ max b c → k ≡ min a j → p ≡ min a b → q ≡ min a c → r ≡ max p q → k ≤ r
dist_digit a b c u v x y z = omega arith

neg_digit : {a b u v : ℕ} → u ≡ 2 - a → v ≡ 2 - b → a ≤ b → v ≤ u
neg_digit x y l = omega arith

panel_laws : Laws panel_ops
panel_laws =
    record {
      rfl = λ a. each_in _ _ (le_refl _) (le_refl _) (le_refl _);
      trans = λ {a} {b} {c} p q. let u = each_out a b p in let v = each_out b c q in each_in _ _ (omega arith) (omega arith) (omega arith);
      antisym = λ {a} {b} l m p q. same_digits a b (ltb-true _ _ l) (ltb-true _ _ m) (each_out a b p) (each_out b a q);
      meet_l = λ a b. let d = meet-digits a b in each_in _ _ (omega arith) (omega arith) (omega arith);
      meet_r = λ a b. let d = meet-digits a b in each_in _ _ (omega arith) (omega arith) (omega arith);
      meet_glb = λ {a} {b} {c} p q.
          let d = meet-digits a b in
          let u = each_out c a p in
          let v = each_out c b q in
          each_in _ _ (glb_digit d.first u.first v.first) (glb_digit d.second u.second v.second) (glb_digit d.third u.third v.third);
      join_l = λ a b. let d = join-digits a b in each_in _ _ (omega arith) (omega arith) (omega arith);
      join_r = λ a b. let d = join-digits a b in each_in _ _ (omega arith) (omega arith) (omega arith);
      join_lub = λ {a} {b} {c} p q. let d = join-digits a b in let u = each_out a c p in let v = each_out b c q in each_in _ _ (omega arith) (omega arith) (omega arith);
      dist = λ a b c.
          let u = join-digits b c in
          let v = meet-digits a (panel_ops.join b c) in
          let x = meet-digits a b in
          let y = meet-digits a c in
          let z = join-digits (panel_ops.meet a b) (panel_ops.meet a c) in
          each_in _ _ (dist_digit (high a) (high b) (high c) u.first v.first x.first y.first z.first)
          (dist_digit (middle a) (middle b) (middle c) u.second v.second x.second y.second z.second)
          (dist_digit (low a) (low b) (low c) u.third v.third x.third y.third z.third);
      neg_anti = λ {a} {b} p.
          let u = each_out a b p in
          let d = neg-digits a in
          let k = neg-digits b in
          each_in _ _ (neg_digit d.first k.first u.first) (neg_digit d.second k.second u.second) (neg_digit d.third k.third u.third);
      neg_in = λ a. let d = neg-digits a in let k = neg-digits (26 - a % 27) in each_in _ _ (omega arith) (omega arith) (omega arith);
      neg_out = λ a. let d = neg-digits a in let k = neg-digits (26 - a % 27) in each_in _ _ (omega arith) (omega arith) (omega arith);
      top_max = λ a. each_in a 26 (omega arith) (omega arith) (omega arith);
      bot_min = λ a. each_in 0 a (omega arith) (omega arith) (omega arith);
      meet-element = λ a b. lt-ltb _ _ (meet-digits a b).small;
      join-element = λ a b. lt-ltb _ _ (join-digits a b).small;
      neg-element = λ a. lt-ltb _ _ (neg-digits a).small;
      top-element = refl;
      bot-element = refl;
      finite = λ l a d. distinct_le 27 l (all_map _ _ (λ x t. ltb-true _ _ t) l a) d;
    }

-- on the elements these are the panel's order and complement
panel_orders : (a b : ℕ) → a < 27 → b < 27 → panel_ops.at_most a b ≡ panel_order a b
panel_orders a b l m = let x : a % 27 ≡ a = omega arith in let y : b % 27 ≡ b = omega arith in ap₂ panel_order x y

panel_complements : (a : ℕ) → a < 27 → panel_ops.neg a ≡ 26 - a
panel_complements a l = let x : a % 27 ≡ a = omega arith in ap (λ k. 26 - k) x

-- ---- the theorems

-- the one byte 0 reads as the panel lattice
pub panel_read : lattice_of (0 ∷ []) ≡ panel_part
unfolding lattice_of is_panel
panel_read = refl

-- The panel lattice is accepted like any other.
pub panel_accepted : lattice_reading (0 ∷ []) ≡ accepted panel_part
unfolding lattice_form is_panel
panel_accepted =
    lattice_is_accepted (0 ∷ []) form
    (ops_lattice _ panel_ops panel_laws
    (rw panel_read
    (record { elements = λ a. refl; orders = panel_orders; complements = panel_complements })))
    ∙ ap accepted panel_read
  where
    form : lattice_form (0 ∷ []) ≡ true
    form = refl

-- b is an explicit part with the panel's 27 elements, complements and order
pub record PanelBytes (b : List ℕ) : Type 0 where
  pub size : get_or b 0 0 ≡ 27
  pub exact : length b ≡ 757
  pub complements : (a : ℕ) → a < 27 → get_or b (1 + a) 0 ≡ 26 - a
  pub orders : (i j : ℕ) → i < 27 → j < 27 → get_or b (28 + (i * 27 + j)) 0 ≡ indicator (panel_order i j)

module _ (b : List ℕ) (w : PanelBytes b) where
  not_panel : is_panel b ≡ false
  unfolding is_panel
  not_panel = rw w.exact

  explicit : lattice_of b ≡ explicit_part b
  explicit = part_explicit b not_panel

  indicator-below : (t : Bool) → ltb (indicator t) 2 ≡ true
  indicator-below true = refl
  indicator-below false = refl

  same_orders : (i j : ℕ) → i < 27 → j < 27 → (explicit_part b).order i j ≡ panel_order i j
  same_orders i j l m = rw w.size (ap (λ x. eqb x 1) (w.orders i j l m) ∙ indicator-test _)

  has_form : lattice_form b ≡ true
  has_form =
      form-last b 27 not_panel (sym w.size) (omega arith) (omega arith) w.exact
      (all_in 27 _ (λ i l. lt-ltb (get_or b (1 + i) 0) (get_or b 0 0) (rw (w.size, w.complements i l) (omega arith))))
      ∙ all_in 729 _ (λ k l.
      let e : k / 27 * 27 + k % 27 ≡ k = omega arith in
      ap (λ x. ltb x 2) (rw e at (w.orders (k / 27) (k % 27) (omega arith) (omega arith))) ∙ indicator-below (panel_order (k / 27) (k % 27)))

  -- An explicit part with the panel's 27 elements has the panel's operations, and is accepted too.
  pub panel_bytes_same : ops_of (lattice_of b) ≡ ops_of panel_part
  panel_bytes_same =
      ap ops_of explicit
      ∙ ops_cong (explicit_part b) panel_part (rw w.size (omega arith))
      (record { sizes = w.size; orders = λ i j l m. same_orders i j (rw w.size at l) (rw w.size at m) })
      (λ a l. w.complements a (rw w.size at l))

  pub panel_bytes_accepted : lattice_reading b ≡ accepted (lattice_of b)
  panel_bytes_accepted =
      lattice_is_accepted b has_form
      (ops_lattice _ panel_ops panel_laws
      (rw explicit
      (record {
        elements = λ a. rw w.size;
        orders = λ i j l m. panel_orders i j (rw w.size at l) (rw w.size at m) ∙ sym (same_orders i j (rw w.size at l) (rw w.size at m));
        complements = λ a l. panel_complements a (rw w.size at l) ∙ sym (w.complements a (rw w.size at l));
      })))
