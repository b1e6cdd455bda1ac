-- Finite distributive De Morgan lattices: operations, chains, laws, and finite meets and joins. Rests on nothing.
--   Ops: the operations of a lattice, and its size; AtMost, Element: at or below, and being an element, as statements
--   Laws: the laws of a finite distributive De Morgan lattice
--   imp, iff: → and ↔; big_meet, big_join: the meet and the join of f 0, .., f (n - 1)
--   Chain, LongestChain: elements any two of which are in order, and the number h of the most such
--   All, Pairwise: of every entry, and of every two entries, of a list
use Rattle.std.specs.Prelude.{ℕ, zero, suc, ◌≤◌, ◌≡◌, Bool, true, ◌⊎◌, ◌≢◌, List, [], ◌∷◌, length}

-- What a lattice on the values A computes with. `is_element` says which values are elements; the operations read any other
-- value as one of them, so that they need no limit on what they are given.
pub record Ops (A : Type 0) : Type 0 where
  -- n, the number of elements
  pub size : ℕ
  pub is_element : A → Bool
  -- the first is at or below the second
  pub at_most : A → A → Bool
  pub meet : A → A → A
  pub join : A → A → A
  -- the complement, 'not a'
  pub neg : A → A
  pub top : A
  pub bot : A

-- ---- lists: each has P; each two, in the list's order, are related by R

abbrev pub All : {A : Type 0} → (A → Type 0) → List A → Type 0
All P [] = Unit {0}
All P (a ∷ l) = P a × All P l

abbrev pub Pairwise : {A : Type 0} → (A → A → Type 0) → List A → Type 0
Pairwise R [] = Unit {0}
Pairwise R (a ∷ l) = All (R a) l × Pairwise R l

module _ {A : Type 0} (O : Ops A) where
  -- a is at or below b
  abbrev pub AtMost : A → A → Type 0
  AtMost a b = O.at_most a b ≡ true

  abbrev pub Element : A → Type 0
  Element a = O.is_element a ≡ true

  -- 'A chain is a set of elements any two of which are in order': a list without repetition stands for the set.
  pub record Chain (l : List A) : Type 0 where
    pub elements : All Element l
    pub distinct : Pairwise (λ a b. a ≢ b) l
    pub ordered : Pairwise (λ a b. AtMost a b ⊎ AtMost b a) l

  -- 'h being the number of elements in the lattice's longest chain'
  pub record LongestChain (h : ℕ) : Type 0 where
    pub chain : List A
    pub is_chain : Chain chain
    pub is_long : length chain ≡ h
    pub longest : (l : List A) → Chain l → length l ≤ h

  -- 'The order is reflexive, antisymmetric and transitive. Every two elements have a meet and a join. Meet distributes over
  -- join. The complement of the complement is the element, and a ≤ b gives not-b ≤ not-a.' Antisymmetry is for elements;
  -- every result is an element; and there are no more than `size` elements.
  pub record Laws : Type 0 where
    pub rfl : (a : A) → AtMost a a
    pub trans : {a b c : A} → AtMost a b → AtMost b c → AtMost a c
    pub antisym : {a b : A} → Element a → Element b → AtMost a b → AtMost b a → a ≡ b
    pub meet_l : (a b : A) → AtMost (O.meet a b) a
    pub meet_r : (a b : A) → AtMost (O.meet a b) b
    pub meet_glb : {a b c : A} → AtMost c a → AtMost c b → AtMost c (O.meet a b)
    pub join_l : (a b : A) → AtMost a (O.join a b)
    pub join_r : (a b : A) → AtMost b (O.join a b)
    pub join_lub : {a b c : A} → AtMost a c → AtMost b c → AtMost (O.join a b) c
    pub dist : (a b c : A) → AtMost (O.meet a (O.join b c)) (O.join (O.meet a b) (O.meet a c))
    pub neg_anti : {a b : A} → AtMost a b → AtMost (O.neg b) (O.neg a)
    pub neg_in : (a : A) → AtMost a (O.neg (O.neg a))
    pub neg_out : (a : A) → AtMost (O.neg (O.neg a)) a
    pub top_max : (a : A) → AtMost a O.top
    pub bot_min : (a : A) → AtMost O.bot a
    pub meet-element : (a b : A) → Element (O.meet a b)
    pub join-element : (a b : A) → Element (O.join a b)
    pub neg-element : (a : A) → Element (O.neg a)
    pub top-element : Element O.top
    pub bot-element : Element O.bot
    pub finite : (l : List A) → All Element l → Pairwise (λ a b. a ≢ b) l → length l ≤ O.size

  -- 'a → b is (not a) joined with b.'
  unfoldable pub imp : A → A → A
  imp a b = O.join (O.neg a) b

  -- 'a ↔ b is the meet of a → b and b → a.'
  unfoldable pub iff : A → A → A
  unfolding imp
  iff a b = O.meet (imp a b) (imp b a)

  -- the meet of f 0, .., f (n - 1), in rising order: 'A meet over nothing is top, a join over nothing bottom.'
  unfoldable pub big_meet : ℕ → (ℕ → A) → A
  big_meet zero f = O.top
  big_meet (suc n) f = O.meet (big_meet n f) (f n)

  unfoldable pub big_join : ℕ → (ℕ → A) → A
  big_join zero f = O.bot
  big_join (suc n) f = O.join (big_join n f) (f n)
