-- Theorem 8: the definitions give the values of the worked examples, and example 2 meets the limit on T.
-- Rests on Examples, Test, Descent, Height, Monotone.
-- The definitions are in specs/ExamplesHold.
--   examples_hold: every worked example holds
--   limit_met: T is N1·N2·(h − 1) + 1 in example 2
use Rattle.std.specs.Prelude.{ℕ, zero, suc, ◌+◌, ◌*◌, ◌-◌, ◌<◌, ◌≡◌, refl, true, not, [], ◌∷◌, ltb}
use Rattle.std.proofs.Common.{inl, arith, lit≤}
use borrow.Author.Tests.{ltb-true, lt-ltb, eqb-true, eq-eqb, not-true}
use Rattle.theory.specs.Lattice.{Ops, All, LongestChain, imp, iff, big_meet, big_join}
use Rattle.theory.specs.Model.{Model}
use Rattle.theory.specs.Formula.{prop, var, and, AX, closed_under, nested_AX}
use Rattle.theory.specs.Value.{eval, iterate, bind, value_at, whole_value, SameMap}
use Rattle.theory.specs.Simulation.{F, round, SameTable, FirstUnchanged, round_of, score, share}
use Rattle.theory.specs.Part.{model_of}
use Rattle.theory.specs.Finite.{all_map}
use Rattle.theory.specs.Descent.{steps}
use Rattle.theory.specs.Height.{distinct_le}
use Rattle.theory.specs.Test.{all_below}
use Rattle.theory.specs.TestLaws.{all_at, all_in, and_l, and_r, and_in, false_true}
use Rattle.theory.specs.Lists.{tab}
use Rattle.theory.proofs.Monotone.{body_cong, iterate_stays}
use Rattle.theory.specs.Examples.{part_ops, ExampleHolds, L2, subsets, loop2, still2, reaches, always, example1, example2, example3, example4, example5, example6, table1, reported, whole_bound, examples, settles_at}
use Rattle.theory.specs.ExamplesHold.{unchanged_test}

-- ---- T by a test that is computed

module _ (O : Ops ℕ) (M₁ M₂ : Model ℕ) where
  passed : (t : ℕ) → 0 < t → SameTable O M₁ M₂ (round O M₁ M₂ t) (round O M₁ M₂ (t - 1)) → unchanged_test O M₁ M₂ t ≡ true
  unfolding unchanged_test
  passed t p s = and_in _ _ (lt-ltb 0 t p) (all_in _ _ (λ q₁ l. all_in _ _ (λ q₂ m. eq-eqb _ _ (s q₁ l q₂ m))))

  pub settles_by_test : (T : ℕ) → unchanged_test O M₁ M₂ T ≡ true → all_below T (λ t. not (unchanged_test O M₁ M₂ t)) ≡ true → FirstUnchanged O M₁ M₂ T
  unfolding unchanged_test
  settles_by_test T e w =
      record {
        above0 = ltb-true 0 T (and_l (ltb 0 T) _ e);
        unchanged = λ q₁ l q₂ m. eqb-true _ _ (all_at _ _ (all_at _ _ (and_r (ltb 0 T) _ e) q₁ l) q₂ m);
        least = λ t p l s. false_true (not-true _ (all_at T _ w t l)) (passed t p s);
      }

-- ---- each example

example1_holds : All ExampleHolds example1
unfolding part_ops unchanged_test round_of F big_meet big_join imp iff tab
example1_holds = (refl, (settles_by_test _ _ _ 2 refl refl, tt))

example2_holds : All ExampleHolds example2
unfolding part_ops unchanged_test round_of F big_meet big_join imp iff tab
example2_holds = (refl, (settles_by_test _ _ _ 2 refl refl, (refl, (settles_by_test _ _ _ 1 refl refl, tt))))

example3_holds : All ExampleHolds example3
unfolding part_ops unchanged_test round_of F big_meet big_join imp iff tab
example3_holds = (refl, (settles_by_test _ _ _ 2 refl refl, tt))

example4_holds : All ExampleHolds example4
unfolding part_ops unchanged_test round_of F value_at eval nested_AX big_meet big_join imp iff tab
example4_holds = (refl, (refl, (settles_by_test _ _ _ 3 refl refl, (refl, (refl, (refl, (refl, tt)))))))

example5_holds : All ExampleHolds example5
unfolding part_ops value_at eval big_meet big_join imp
example5_holds = (refl, (refl, tt))

example6_holds : All ExampleHolds example6
unfolding part_ops unchanged_test round_of F big_meet big_join imp iff share tab
example6_holds = (settles_by_test _ _ _ 1 refl refl, (refl, (refl, (refl, (refl, (refl, (refl, tt)))))))

-- row t of the table: the body applied t times, from top; 21 is states * (n - 1)
abbrev z : ℕ → ℕ → ℕ
z t = iterate t (λ x. eval (part_ops subsets) (model_of reaches) 21 (and (prop 0) (AX (var 0))) (bind x (λ v q. 0))) (λ q. 7)

-- 'A fixed-point is reached when z2 = z3'
z_fixed : SameMap (part_ops subsets) (model_of reaches) (z 3) (z 2)
unfolding part_ops eval big_meet imp
z_fixed zero l = refl
z_fixed (suc zero) l = refl
z_fixed (suc (suc zero)) l = refl
z_fixed (suc (suc (suc q))) l = absurd (omega arith)

value_z : (q : ℕ) → q < 3 → value_at (part_ops subsets) (model_of reaches) always q ≡ z 2 q
unfolding part_ops value_at eval closed_under
value_z =
    iterate_stays (part_ops subsets) (model_of reaches) _
    (body_cong (part_ops subsets) (model_of reaches) 21 0 (and (prop 0) (AX (var 0))) refl (λ v q. 0))
    (λ q. 7) 2 z_fixed 21 (lit≤ tt)

table1_holds : All ExampleHolds table1
unfolding part_ops eval big_meet imp
table1_holds = (value_z 0 (lit≤ tt), (value_z 1 (lit≤ tt), (value_z 2 (lit≤ tt), tt)))

reported_holds : All ExampleHolds reported
unfolding part_ops round_of F whole_value score eval big_meet big_join imp iff
reported_holds = (refl, (refl, tt))

whole_bound_holds : All ExampleHolds whole_bound
unfolding part_ops unchanged_test round_of F whole_value score eval nested_AX big_meet big_join imp iff
whole_bound_holds = (refl, (settles_by_test _ _ _ 4 refl refl, (refl, (refl, (refl, (refl, tt))))))

-- ---- Theorem 8

pub examples_hold : All (All ExampleHolds) examples
examples_hold = (example1_holds, (example2_holds, (example3_holds, (example4_holds, (example5_holds, (example6_holds, (table1_holds, (reported_holds, (whole_bound_holds, tt)))))))))

-- ---- 'T is at most N1·N2·(h − 1) + 1' is met in example 2, with h = 2

L2_longest : LongestChain (part_ops L2) 2
unfolding part_ops
L2_longest =
    record {
      chain = 0 ∷ 1 ∷ [];
      is_chain = record { elements = (refl, (refl, tt)); distinct = ((λ e. omega arith, tt), (tt, tt)); ordered = ((inl refl, tt), (tt, tt)) };
      is_long = refl;
      longest = λ l c. distinct_le 2 l (all_map _ _ (λ a t. ltb-true _ _ t) l c.elements) c.distinct;
    }

pub limit_met : LongestChain (part_ops L2) 2 × ExampleHolds (settles_at L2 loop2 still2 ((model_of loop2).states * (model_of still2).states * steps 2 + 1))
unfolding part_ops unchanged_test round_of F big_meet big_join imp
limit_met = (L2_longest, settles_by_test _ _ _ _ refl refl)
