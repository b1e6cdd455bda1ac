-- Tests of words that agree below n. Rests on theory's TestLaws, Tests.
--   ordered_cong, closed_cong, is_word_cong, irreducibles_cong
use Rattle.std.specs.Prelude.{ℕ, ◌-◌, ◌^◌, ◌<◌, ◌≡◌, Bool, ◌&&◌}
use Rattle.std.proofs.Common.{◌∙◌}
use Rattle.std.proofs.Math.Path.{ap, ap₂}
use Rattle.std.proofs.Math.Dec.{eqb}
use Rattle.theory.specs.Test.{◌⇒◌}
use Rattle.theory.specs.TestLaws.{all_cong}
use Rattle.elements.specs.Bits.{bits_cong}
use Rattle.elements.specs.Words.{within}
use Rattle.lattice_codes.specs.Tests.{any_cong, same, both, is_word, ordered_by, pair_ordered, ordered, pair_closed, closed, irreducibles}

module _ (n : ℕ) (f g : ℕ → ℕ) (h : (a : ℕ) → a < n → f a ≡ g a) where
  pub is_word_cong : (x : ℕ) → is_word n f x ≡ is_word n g x
  unfolding is_word
  is_word_cong x = any_cong n _ _ (λ c l. ap (λ (y : ℕ). eqb y x) (h c l))

  pub closed_cong : (mask : ℕ) (joins : Bool) → closed n f mask joins ≡ closed n g mask joins
  unfolding closed pair_closed
  closed_cong mask joins =
      all_cong n _ _ (λ a l. all_cong n _ _ (λ b m.
      ap (λ (t : Bool). within (2 ^ a) mask ⇒ t) (is_word_cong (both joins (f a) (f b)) ∙ ap₂ (λ (x y : ℕ). is_word n g (both joins x y)) (h a l) (h b m))))

  pub irreducibles_cong : irreducibles n f ≡ irreducibles n g
  irreducibles_cong = bits_cong n _ _ (λ a l. is_word_cong (f a - 2 ^ a) ∙ ap (λ (x : ℕ). is_word n g (x - 2 ^ a)) (h a l))

pub ordered_cong : (n : ℕ) (f g u v : ℕ → ℕ) → ((a : ℕ) → a < n → f a ≡ g a) → ((a : ℕ) → a < n → u a ≡ v a) → ordered n f u ≡ ordered n g v
unfolding ordered pair_ordered ordered_by
ordered_cong n f g u v h k =
    all_cong n _ _ (λ a l. all_cong n _ _ (λ b m. λ i.
    same (within (2 ^ b) (h a l i)) (within (k b m i) (k a l i)) && (eqb (k a l i) (k b m i) ⇒ eqb a b)))
