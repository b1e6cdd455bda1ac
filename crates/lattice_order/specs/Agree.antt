-- Parts that agree on their elements have the same meets, joins, top, bottom and operations. Rests on theory's Part and Test, Searched, DeMorgan.
--   SameOrder: the same elements in the same order; same_reversed
--   meet_same_order, join_same_order, top_same_order, bot_same_order: the same meets, joins, top and bottom; ops_cong: the same operations
--   meet_comm, join_comm: the order of the two elements does not matter; by_number: the lesser number may be taken first
--   first_cong: tests that agree have the same first number
use Rattle.std.specs.Prelude.{ℕ, zero, suc, min, max, ◌<◌, ◌≡◌, refl, Bool, true, false, ltb, leb}
use Rattle.std.proofs.Common.{sym, ◌∙◌, le_refl, arith, leb-true, leb-false}
use Rattle.std.proofs.Math.Path.{ap, ap₂}
use Rattle.std.proofs.Math.Bool.{◌&&◌}
use Rattle.theory.specs.Part.{LatticePart, is_meet, meet_of, join_of, top_of, bot_of, element, ops_of}
use Rattle.theory.specs.Test.{all_below, first_below, ◌⇒◌}
use Rattle.theory.specs.TestLaws.{bool_same, all_cong}
use Rattle.lattice_order.specs.Searched.{element_lt, join-reversed, bot-reversed, meet_in_lem, meet_out}
use Rattle.lattice_order.specs.DeMorgan.{reversed, MeetAt}

pub first_cong : (n : ℕ) (f g : ℕ → Bool) → ((i : ℕ) → i < n → f i ≡ g i) → first_below n f ≡ first_below n g
unfolding first_below
first_cong zero f g h = refl
first_cong (suc n) f g h = rw (first_cong n f g (λ i l. h i (omega arith)), h n (le_refl _))

-- the same elements, in the same order
pub record SameOrder (P Q : LatticePart) : Type 0 where
  pub sizes : P.size ≡ Q.size
  pub orders : (a b : ℕ) → a < P.size → b < P.size → P.order a b ≡ Q.order a b

pub same_reversed : (P Q : LatticePart) → SameOrder P Q → SameOrder (reversed P) (reversed Q)
same_reversed P Q w = record { sizes = w.sizes; orders = λ a b l m. w.orders b a m l }

module _ (P Q : LatticePart) (w : SameOrder P Q) where
  is_meet_same : (a b m : ℕ) → a < P.size → b < P.size → m < P.size → is_meet P a b m ≡ is_meet Q a b m
  unfolding is_meet
  is_meet_same a b m l k j =
      ap₂ ◌&&◌ (ap₂ ◌&&◌ (w.orders m a j l) (w.orders m b j k))
      (all_cong P.size _ _ (λ c i. ap₂ ◌⇒◌ (w.orders c a i l) (ap₂ ◌⇒◌ (w.orders c b i k) (w.orders c m i j)))
      ∙ ap (λ n. all_below n (λ c. Q.order c a ⇒ Q.order c b ⇒ Q.order c m)) w.sizes)

  pub meet_same_order : (a b : ℕ) → a < P.size → b < P.size → meet_of P a b ≡ meet_of Q a b
  unfolding meet_of
  meet_same_order a b l k = first_cong P.size _ _ (λ m j. is_meet_same a b m l k j) ∙ ap (λ n. first_below n (is_meet Q a b)) w.sizes

  pub top_same_order : top_of P ≡ top_of Q
  unfolding top_of
  top_same_order =
      first_cong P.size _ _ (λ a l. all_cong P.size _ _ (λ b k. w.orders b a k l) ∙ ap (λ n. all_below n (λ b. Q.order b a)) w.sizes)
      ∙ ap (λ n. first_below n (λ a. all_below Q.size (λ b. Q.order b a))) w.sizes

pub join_same_order : (P Q : LatticePart) → SameOrder P Q → (a b : ℕ) → a < P.size → b < P.size → join_of P a b ≡ join_of Q a b
join_same_order P Q w a b l k = join-reversed P a b ∙ meet_same_order (reversed P) (reversed Q) (same_reversed P Q w) a b l k ∙ sym (join-reversed Q a b)

pub bot_same_order : (P Q : LatticePart) → SameOrder P Q → bot_of P ≡ bot_of Q
bot_same_order P Q w = bot-reversed P ∙ top_same_order (reversed P) (reversed Q) (same_reversed P Q w) ∙ sym (bot-reversed Q)

-- ---- the order of the two elements does not matter

pub meet_comm : (P : LatticePart) (a b : ℕ) → meet_of P a b ≡ meet_of P b a
unfolding meet_of
meet_comm P a b = first_cong P.size _ _ (λ m l. bool_same _ _ (λ t. meet_in_lem P b a m (swap a b m (meet_out P a b m t))) (λ t. meet_in_lem P a b m (swap b a m (meet_out P b a m t))))
  where
    swap : (a b m : ℕ) → MeetAt P a b m → MeetAt P b a m
    swap a b m v = record { left = v.right; right = v.left; greatest = λ c l p q. v.greatest c l q p }

pub join_comm : (P : LatticePart) (a b : ℕ) → join_of P a b ≡ join_of P b a
join_comm P a b = join-reversed P a b ∙ meet_comm (reversed P) a b ∙ sym (join-reversed P b a)

-- an operation that does not care gives the same for the lesser and the greater number
pub by_number : (f : ℕ → ℕ → ℕ) → ((a b : ℕ) → f a b ≡ f b a) → (a b : ℕ) → f (min a b) (max a b) ≡ f a b
by_number f h a b = go (leb a b) refl
  where
    go : (x : Bool) → leb a b ≡ x → f (min a b) (max a b) ≡ f a b
    go true e =
        let l = leb-true a b e in
        let p : min a b ≡ a = omega arith in
        let q : max a b ≡ b = omega arith in
        rw (p, q)
    go false e =
        let l = leb-false a b e in
        let p : min a b ≡ b = omega arith in
        let q : max a b ≡ a = omega arith in
        rw (p, q) (h b a)

-- ---- the operations

-- Parts of the same size, order and complement have the same operations.
pub ops_cong : (P Q : LatticePart) → 0 < P.size → SameOrder P Q → ((a : ℕ) → a < P.size → P.complement a ≡ Q.complement a) → ops_of P ≡ ops_of Q
ops_cong P Q s w h =
    let lt : (a : ℕ) → element P.size a < P.size = λ a. element_lt P.size a s in
    let e : (a : ℕ) → element P.size a ≡ element Q.size a = λ a. ap (λ n. element n a) w.sizes in
    let le : (a b : ℕ) → P.order (element P.size a) (element P.size b) ≡ Q.order (element Q.size a) (element Q.size b) =
    λ a b. w.orders _ _ (lt a) (lt b) ∙ ap₂ Q.order (e a) (e b) in
    let mt : (a b : ℕ) → meet_of P (element P.size a) (element P.size b) ≡ meet_of Q (element Q.size a) (element Q.size b) =
    λ a b. meet_same_order P Q w _ _ (lt a) (lt b) ∙ ap₂ (meet_of Q) (e a) (e b) in
    let jn : (a b : ℕ) → join_of P (element P.size a) (element P.size b) ≡ join_of Q (element Q.size a) (element Q.size b) =
    λ a b. join_same_order P Q w _ _ (lt a) (lt b) ∙ ap₂ (join_of Q) (e a) (e b) in
    let ng : (a : ℕ) → P.complement (element P.size a) ≡ Q.complement (element Q.size a) = λ a. h _ (lt a) ∙ ap Q.complement (e a) in
    λ i.
    record {
      size = w.sizes i;
      is_element = λ a. ltb a (w.sizes i);
      at_most = λ a b. le a b i;
      meet = λ a b. mt a b i;
      join = λ a b. jn a b i;
      neg = λ a. ng a i;
      top = top_same_order P Q w i;
      bot = bot_same_order P Q w i;
    }
