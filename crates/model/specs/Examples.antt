-- The models of the worked examples are accepted: the bytes that stand in theory's Examples are model parts over the example's lattice,
-- by computation. Rests on theory's Examples and Reading.
use Rattle.std.specs.Prelude.{ℕ, ◌≡◌, refl, true, List, [], ◌∷◌}
use Rattle.theory.specs.Lattice.{All}
use Rattle.theory.specs.Part.{explicit_part}
use Rattle.theory.specs.Test.{all_below}
use Rattle.theory.specs.Examples.{L1, L2, L3, subsets, middle_P, loop2, still2, loop3, still3, step_p, step_no_P, branches, reaches, only}
use Rattle.model.specs.Reading.{elements_only, model_test}

-- each part of a list is a model over the lattice of the part l
abbrev pub AcceptedOver : List ℕ → List (List ℕ) → Type 0
AcceptedOver l ms = All (λ m. model_test (explicit_part l).size m ≡ true) ms

-- examples 1 and 3
pub L3_models : AcceptedOver L3 (middle_P ∷ loop3 ∷ still3 ∷ [])
unfolding all_below elements_only model_test
L3_models = (refl, (refl, (refl, tt)))

-- examples 2 and 4
pub L2_models : AcceptedOver L2 (loop2 ∷ still2 ∷ step_p ∷ step_no_P ∷ [])
unfolding all_below elements_only model_test
L2_models = (refl, (refl, (refl, (refl, tt))))

-- example 5 and Table 1 of 000
pub subsets_models : AcceptedOver subsets (branches ∷ reaches ∷ [])
unfolding all_below elements_only model_test
subsets_models = (refl, (refl, tt))

-- example 6
pub L1_models : AcceptedOver L1 (only ∷ [])
unfolding all_below elements_only model_test
L1_models = (refl, tt)
