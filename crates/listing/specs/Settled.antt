-- The round that Text finds is T, and the listing of an accepted case is that of T. Rests on Text, casefile's Content, theory's Rounds and rounds' Round.
use Prim.Native.Nat.{ℕ, suc, ◌-◌}
use Rattle.std.specs.Prelude.{◌≡◌, refl, true, List}
use Rattle.std.proofs.Common.{sym, subst, ◌∙◌, arith}
use Rattle.std.proofs.Math.Path.{ap}
use Rattle.theory.specs.Simulation.{SameTable}
use Rattle.theory.proofs.Rounds.{round_next, T_at_most-size, T_exists}
use Rattle.theory.specs.Height.{longest_chain}
use Rattle.theory.specs.TestLaws.{FirstAt, first_unique, not_passed}
use Rattle.casefile.specs.Reading.{Content, content, case_reading}
use Rattle.casefile.specs.Content.{ContentSound}
use Rattle.casefile.proofs.Content.{content_sound}
use Rattle.rounds.specs.Table.{simulation_test}
use Rattle.rounds.specs.Round.{simulation_test_lem}
use Rattle.desk.specs.Case.{ops, model1, model2, operator, round_in, limit, IsT}
use Rattle.listing.specs.Text.{settled_round, accepted_text, text_of, listing_text}

module _ (c : Content) (h : ContentSound c) where
  -- there is a T
  pub has_T : (T : ℕ) × IsT c T
  has_T =
      let n = longest_chain (ops c) (λ a. refl) in
      let t = T_exists h.laws (model1 c) (model2 c) n.0 n.2 in
      (t.0, t.2)

  -- round r + 1 equals round r exactly where the test is passed
  test_same : (r : ℕ) → simulation_test (model1 c) (model2 c) (operator c) (round_in c r) ≡ true → SameTable (ops c) (model1 c) (model2 c) (round_in c (suc r)) (round_in c r)
  test_same r e q₁ l q₂ m = round_next (ops c) (model1 c) (model2 c) r q₁ q₂ ∙ sym ((simulation_test_lem (ops c) (model1 c) (model2 c) (operator c) (round_in c r)).0 e q₁ l q₂ m)

  same_test : (r : ℕ) → SameTable (ops c) (model1 c) (model2 c) (round_in c (suc r)) (round_in c r) → simulation_test (model1 c) (model2 c) (operator c) (round_in c r) ≡ true
  same_test r s = (simulation_test_lem (ops c) (model1 c) (model2 c) (operator c) (round_in c r)).1 (λ q₁ l q₂ m. sym (s q₁ l q₂ m) ∙ round_next (ops c) (model1 c) (model2 c) r q₁ q₂)

  first_of_T : (t : ℕ) → IsT c (suc t) → FirstAt (suc (limit c)) (λ r. simulation_test (model1 c) (model2 c) (operator c) (round_in c r)) t
  first_of_T t f =
      let z : suc t - 1 ≡ t = omega arith in
      record {
        most = omega (arith, T_at_most-size h.laws (model1 c) (model2 c) (suc t) f);
        passes = λ l. same_test t (subst (λ (n : ℕ). SameTable (ops c) (model1 c) (model2 c) (round_in c (suc t)) (round_in c n)) z f.unchanged);
        earlier = λ i l. not_passed _ (λ e. let y : suc i - 1 ≡ i = omega arith in f.least (suc i) (omega arith) (omega arith) (subst (λ (n : ℕ). SameTable (ops c) (model1 c) (model2 c) (round_in c (suc i)) (round_in c n)) (sym y) (test_same i e)));
      }

  -- the round that Text finds is T
  pub settled_round_lem : (T : ℕ) → IsT c T → settled_round c ≡ T
  unfolding settled_round
  settled_round_lem T f =
      let z : suc (T - 1) ≡ T = omega (arith, f.above0) in
      ap suc (sym (first_unique (suc (limit c)) (λ r. simulation_test (model1 c) (model2 c) (operator c) (round_in c r)) (T - 1) (first_of_T (T - 1) (rw z f)))) ∙ z

  pub settled_is_T : IsT c (settled_round c)
  settled_is_T = let w = has_T in rw (settled_round_lem w.0 w.1) w.1

-- the text for an accepted case is that of its content and its T
pub listing_is : (b : List ℕ) (c : Content) → case_reading b ≡ content c → (T : ℕ) → IsT c T → listing_text b ≡ accepted_text c T
listing_is b c e T t = ap text_of e ∙ ap (accepted_text c) (settled_round_lem c (content_sound b c e) T t)
