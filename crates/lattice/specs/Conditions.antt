-- What a lattice part has to be, a statement beside each test of Reading, and which refusal it is given exactly when: 4 to 8 of document 01's
-- table 'What a refused call gives'. Rests on theory's Part, lattice_order's DeMorgan and Ordered, Reading.
--   ExplicitForm, HasForm: refusal 4; Ordered: refusal 5, lattice_order's; MeetsAndJoins: refusal 6; Distributive: refusal 7; ComplementRules: refusal 8
--   Breaks4, Breaks5, Breaks6, Breaks7, Breaks8: a part breaks what refusal 4, 5, .. asks, and nothing that an earlier one asks
--   LatticeRefused: each is given exactly when the part breaks what it asks and nothing earlier, and no other is given
use Rattle.std.specs.Prelude.{ℕ, ◌+◌, ◌*◌, ◌≤◌, ◌<◌, ◌≡◌, true, ◌⊎◌, ◌↔◌, List, [], ◌∷◌, length, get_or}
use Rattle.theory.specs.Part.{LatticePart, meet_of, join_of}
use Rattle.refusal.specs.declared.Refusal.{Refusal}
use Rattle.refusal.specs.declared.Refusal.TheVariants.{LatticeForm, NoPartialOrder, NoMeetOrJoin, NotDistributive, BadComplement}
use Rattle.refusal.specs.Number.{number_of}
use Rattle.lattice_order.specs.DeMorgan.{reversed, MeetAt}
use Rattle.lattice.specs.Reading.{refused, lattice_of, lattice_reading}
-- 'The order is reflexive, antisymmetric and transitive.'
pub use Rattle.lattice_order.specs.Ordered.{Ordered}

-- 'A lattice part is n (1 to 64), then n complement bytes, then n·n order bytes', each complement below n, each order byte 0 or 1
pub record ExplicitForm (n : ℕ) (b : List ℕ) : Type 0 where
  pub some : 0 < n
  pub most : n ≤ 64
  pub exact : length b ≡ 1 + n + n * n
  pub complements : (i : ℕ) → i < n → get_or b (1 + i) 0 < n
  pub orders : (i : ℕ) → i < n * n → get_or b (1 + n + i) 0 < 2

-- so, or 'the one byte 0'
abbrev pub HasForm : List ℕ → Type 0
HasForm b = (b ≡ 0 ∷ []) ⊎ ExplicitForm (get_or b 0 0) b

-- 'Every two elements have a meet and a join.'
pub record MeetsAndJoins (P : LatticePart) : Type 0 where
  pub meet : (a b : ℕ) → a < P.size → b < P.size → (m : ℕ) × (m < P.size) × MeetAt P a b m
  pub join : (a b : ℕ) → a < P.size → b < P.size → (m : ℕ) × (m < P.size) × MeetAt (reversed P) a b m

-- 'Meet distributes over join.'
pub record Distributive (P : LatticePart) : Type 0 where
  pub dist : (a b c : ℕ) → a < P.size → b < P.size → c < P.size → meet_of P a (join_of P b c) ≡ join_of P (meet_of P a b) (meet_of P a c)

-- 'The complement of the complement is the element, and a ≤ b gives not-b ≤ not-a.'
pub record ComplementRules (P : LatticePart) : Type 0 where
  pub involution : (a : ℕ) → a < P.size → P.complement (P.complement a) ≡ a
  pub antitone : (a b : ℕ) → a < P.size → b < P.size → P.order a b ≡ true → P.order (P.complement b) (P.complement a) ≡ true

-- ---- 'The first that applies is given, in this order'

module _ (b : List ℕ) where
  -- 4: 'n over 64, a wrong length, a complement not below n, an order byte not 0 or 1'
  abbrev pub Breaks4 : Type 0
  Breaks4 = ¬ HasForm b

  -- 5: 'no partial order'
  abbrev pub Breaks5 : Type 0
  Breaks5 = HasForm b × (¬ Ordered (lattice_of b))

  -- 6: 'a meet or join is missing'
  abbrev pub Breaks6 : Type 0
  Breaks6 = HasForm b × (Ordered (lattice_of b) × (¬ MeetsAndJoins (lattice_of b)))

  -- 7: 'not distributive'
  abbrev pub Breaks7 : Type 0
  Breaks7 = HasForm b × (Ordered (lattice_of b) × (MeetsAndJoins (lattice_of b) × (¬ Distributive (lattice_of b))))

  -- 8: 'a complement rule broken'
  abbrev pub Breaks8 : Type 0
  Breaks8 = HasForm b × (Ordered (lattice_of b) × (MeetsAndJoins (lattice_of b) × (Distributive (lattice_of b) × (¬ ComplementRules (lattice_of b)))))

pub record LatticeRefused (b : List ℕ) : Type 0 where
  pub at_4 : (lattice_reading b ≡ refused LatticeForm) ↔ Breaks4 b
  pub at_5 : (lattice_reading b ≡ refused NoPartialOrder) ↔ Breaks5 b
  pub at_6 : (lattice_reading b ≡ refused NoMeetOrJoin) ↔ Breaks6 b
  pub at_7 : (lattice_reading b ≡ refused NotDistributive) ↔ Breaks7 b
  pub at_8 : (lattice_reading b ≡ refused BadComplement) ↔ Breaks8 b
  pub only : (r : Refusal) → lattice_reading b ≡ refused r → (4 ≤ number_of r) × (number_of r ≤ 8)
