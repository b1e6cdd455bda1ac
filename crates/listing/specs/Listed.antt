-- The listing of an accepted case is that of T, of the greatest latticed simulation with its score, and of the formulas' whole values in the
-- latticed mu-calculus. Rests on Text, and for the proof on Settled, Entries, desk's Demand2 and theory's Rounds.
use Rattle.std.specs.Prelude.{ℕ, ◌<◌, ◌≡◌, length}
use Rattle.std.proofs.Math.Path.{ap, ap₂}
use Rattle.std.proofs.Common.{◌∙◌}
use mathlib.Core.List.{List, ◌++◌}
use Rattle.theory.specs.Lattice.{imp, big_meet}
use Rattle.theory.specs.Formula.{Formula}
use Rattle.theory.specs.Value.{whole_value}
use Rattle.theory.specs.Calculus.{Calculus}
use Rattle.theory.specs.Simulation.{SameTable, GreatestSimulation}
use Rattle.theory.specs.Folds.{big_meet_cong}
use Rattle.theory.proofs.Rounds.{F_element, round_element, settled_greatest}
use Rattle.formula.specs.RoundTrip.{formula_part}
use Rattle.casefile.specs.Reading.{Content, content, case_reading}
use Rattle.casefile.specs.Content.{ContentSound}
use Rattle.casefile.proofs.Content.{content_sound}
use Rattle.desk.specs.Case.{ops, model1, model2, model_in, formula_in, round_in, IsT}
use Rattle.desk.proofs.Demand2.{value_of}
use Rattle.listing.specs.Text.{each, table_text, formula_text, formula_line, formulas_text, accepted_text, listing_text}
use Rattle.listing.specs.Writing.{each_cong}
use Rattle.listing.specs.Entries.{table_cong}
use Rattle.listing.specs.Settled.{listing_is}

-- 'A formula's value on a whole model is the meet over q of Q0(q) → value at q', u giving the values at the states
abbrev pub whole_by : Content → ℕ → (Formula → (ℕ → ℕ → ℕ) → ℕ → ℕ) → ℕ → ℕ
whole_by c m u f = big_meet (ops c) (model_in c m).states (λ q. imp (ops c) ((model_in c m).initial q) (u (formula_in c f) (λ v i. (ops c).bot) q))

-- the text with T, the table G, and the values that u₁ and u₂ give on models 1 and 2
abbrev pub text_by : Content → ℕ → (ℕ → ℕ → ℕ) → (Formula → (ℕ → ℕ → ℕ) → ℕ → ℕ) → (Formula → (ℕ → ℕ → ℕ) → ℕ → ℕ) → List ℕ
text_by c T G u₁ u₂ = table_text (ops c) (model1 c) (model2 c) T G ++ each (length c.formulas) (λ f. formula_text f (whole_by c 1 u₁ f) (whole_by c 2 u₂ f))

module _ (b : List ℕ) (c : Content) (e : case_reading b ≡ content c) (T : ℕ) (t : IsT c T) where
  abbrev sound : ContentSound c
  sound = content_sound b c e

  -- there is one greatest simulation, the table of round T
  pub greatest_is : GreatestSimulation (ops c) (model1 c) (model2 c) (round_in c T)
  greatest_is = settled_greatest sound.laws (model1 c) (model2 c) T t

  same_greatest : (G : ℕ → ℕ → ℕ) → GreatestSimulation (ops c) (model1 c) (model2 c) G → SameTable (ops c) (model1 c) (model2 c) (round_in c T) G
  same_greatest G g q₁ l q₂ m =
      sound.laws.antisym
      (round_element sound.laws (model1 c) (model2 c) T q₁ q₂)
      (rw (g.is_fixed q₁ l q₂ m) (F_element sound.laws (model1 c) (model2 c) G q₁ q₂))
      (g.greatest (round_in c T) greatest_is.is_fixed q₁ l q₂ m)
      (greatest_is.greatest G g.is_fixed q₁ l q₂ m)

  whole_by_lem : (m f : ℕ) → f < length c.formulas → (u : Formula → (ℕ → ℕ → ℕ) → ℕ → ℕ) → Calculus (ops c) (model_in c m) u → whole_value (ops c) (model_in c m) (formula_in c f) ≡ whole_by c m u f
  unfolding whole_value
  whole_by_lem m f l u a =
      let p = formula_part (model1 c).propositions _ (formula_in c f) (sound.formulas.each f l) in
      big_meet_cong (ops c) (model_in c m).states _ _ (λ q k. ap (imp (ops c) ((model_in c m).initial q)) (value_of c sound m (formula_in c f) p.is_closed p.props u a q k))

  pub listed : (G : ℕ → ℕ → ℕ) → GreatestSimulation (ops c) (model1 c) (model2 c) G
      → (u₁ u₂ : Formula → (ℕ → ℕ → ℕ) → ℕ → ℕ) → Calculus (ops c) (model1 c) u₁ → Calculus (ops c) (model2 c) u₂
      → listing_text b ≡ text_by c T G u₁ u₂
  unfolding accepted_text formulas_text formula_line
  listed G g u₁ u₂ a₁ a₂ =
      listing_is b c e T t
      ∙ ap₂ ◌++◌
      (table_cong (ops c) (model1 c) (model2 c) (round_in c T) G (same_greatest G g) T)
      (each_cong (length c.formulas) _ _ (λ f l. ap₂ (formula_text f) (whole_by_lem 1 f l u₁ a₁) (whole_by_lem 2 f l u₂ a₂)))
