-- The latticed mu-calculus as 000 and document 01 define it, with no count of applications. Rests on Lattice, Model, Formula, Value.
--   Calculus: a function gives the values of formulas: of_bottom to of_EX for each code, of_mu and of_nu for fixpoints
--   Present: what of_mu and of_nu ask of the variables in scope
use Rattle.std.specs.Prelude.{ℕ, suc, ◌<◌, ◌≡◌, true}
use Rattle.theory.specs.Lattice.{Ops}
use Rattle.theory.specs.Model.{Model}
use Rattle.theory.specs.Formula.{Formula, bottom, top, prop, negated, var, or, and, AX, EX, mu, nu, closed_under, over_props}
use Rattle.theory.specs.Value.{bind, all_next, some_next, ToElements, LeastFixpoint, GreatestFixpoint}

module _ {A : Type 0} (O : Ops A) (M : Model A) where
  -- the present values of the variables below d are elements
  abbrev pub Present : ℕ → (ℕ → ℕ → A) → Type 0
  Present d e = (v : ℕ) → v < d → ToElements O M (e v)

  -- `value` gives the values of formulas, for present values e of the variables: 'or is join, and is meet; AX f at q is the meet over
  -- all q' of (not R(q, q')) joined with f(q'); EX f is the join of R(q, q') met with f(q'). The least fixpoint is the least map from
  -- states to elements that its body sends to itself; the greatest likewise.'
  pub record Calculus (value : Formula → (ℕ → ℕ → A) → ℕ → A) : Type 0 where
    pub of_bottom : (e : ℕ → ℕ → A) (q : ℕ) → value bottom e q ≡ O.bot
    pub of_top : (e : ℕ → ℕ → A) (q : ℕ) → value top e q ≡ O.top
    pub of_prop : (p : ℕ) (e : ℕ → ℕ → A) (q : ℕ) → value (prop p) e q ≡ M.label q p
    pub of_negated : (p : ℕ) (e : ℕ → ℕ → A) (q : ℕ) → value (negated p) e q ≡ O.neg (M.label q p)
    pub of_var : (v : ℕ) (e : ℕ → ℕ → A) (q : ℕ) → value (var v) e q ≡ e v q
    pub of_or : (f g : Formula) (e : ℕ → ℕ → A) (q : ℕ) → value (or f g) e q ≡ O.join (value f e q) (value g e q)
    pub of_and : (f g : Formula) (e : ℕ → ℕ → A) (q : ℕ) → value (and f g) e q ≡ O.meet (value f e q) (value g e q)
    pub of_AX : (f : Formula) (e : ℕ → ℕ → A) (q : ℕ) → value (AX f) e q ≡ all_next O M (value f e) q
    pub of_EX : (f : Formula) (e : ℕ → ℕ → A) (q : ℕ) → value (EX f) e q ≡ some_next O M (value f e) q
    pub of_mu : (d : ℕ) (f : Formula) → closed_under (suc d) f ≡ true → over_props M.propositions f ≡ true → (e : ℕ → ℕ → A) → Present d e → LeastFixpoint O M (λ y. value f (bind y e)) (value (mu f) e)
    pub of_nu : (d : ℕ) (f : Formula) → closed_under (suc d) f ≡ true → over_props M.propositions f ≡ true → (e : ℕ → ℕ → A) → Present d e → GreatestFixpoint O M (λ y. value f (bind y e)) (value (nu f) e)
