-- The export of one entry answers so, from what the code found. Rests on Worked, desk's Refused and RefusedLaws, desk_check's Answer and Held,
-- entries' Table and theory's PairLaws.
--   worked, worked_refused, worked_outside, worked_entry_lem: the three answers; state_below: a state is below the model's count; pairs_fit: 32 bits hold the count
use Rattle.std.specs.Prelude.{ℕ, ◌≤◌, ◌<◌, ◌≡◌, refl, true, false, ◌&&◌, List, ltb, get_or, take, Result, Err}
use Rattle.std.proofs.Common.{sym, ap, ap₂, ◌∙◌, arith, ltb-true}
use Rattle.theory.specs.Part.{model_of}
use Rattle.theory.proofs.PairLaws.{pairs_most}
use Rattle.theory.specs.TestLaws.{and_l, and_r, cond_true, cond_false}
use Rattle.elements.specs.Words.{ops_in}
use Rattle.refusal.specs.declared.Refusal.{Refusal}
use Rattle.refusal.specs.declared.Refusal.TheVariants.{OutOfRange}
use Rattle.casefile.specs.declared.Sizes.{Sizes}
use Rattle.casefile.specs.Directory.{part_at}
use Rattle.casefile.specs.Reading.{CaseReading, refused, content}
use Rattle.entries.specs.Table.{table_of, EntryIs}
use Rattle.desk.specs.Desk.{Desk, Call, whole_table}
use Rattle.desk.specs.Case.{N1, N2}
use Rattle.desk.specs.Refused.{examined}
use Rattle.desk.proofs.RefusedLaws.{in_store}
use Rattle.desk_check.specs.Answer.{examined_answer, DeskExamined}
use Rattle.desk_check.specs.Held.{HeldDesk, few, show-examined}
use Rattle.exports.specs.declared.WorkedEntry.{WorkedEntry}
use Rattle.exports.specs.Worked.{refused_entry, worked_entry}

-- an entry with its pairs, refused by nothing
abbrev pub worked : ℕ → ℕ → WorkedEntry
worked e n = record { number = 0; part = 0; value = e; pairs = n }

pub worked_refused : (q₁ q₂ : ℕ) (d : Desk) (r : Result Sizes Refusal) (f : Refusal) (w : List ℕ) → DeskExamined d r w → r ≡ Err f → refused_entry f ≡ worked_entry q₁ q₂ d (examined Call.Show d)
worked_refused q₁ q₂ d r f w a e = go (examined Call.Show d) (sym e ∙ a.answer ∙ sym (ap examined_answer (show-examined d)))
  where
    go : (x : CaseReading) → Err f ≡ examined_answer x → refused_entry f ≡ worked_entry q₁ q₂ d x
    go (refused r) e = let q : f ≡ r = cc in rw q
    go (content c) e = absurd (let z : ◌≡◌ {A = ℕ} 0 1 = cc in omega arith)

module _ {d : Desk} {z : Sizes} {w : List ℕ} (h : HeldDesk d z w) (q₁ q₂ : ℕ) where
  -- the examination's content
  is_held : examined Call.Show d ≡ content h.case.holds
  is_held = in_store Call.Show d h.case.holds refl h.unspoiled

  pub worked_outside : (ltb q₁ z.states1 && ltb q₂ z.states2) ≡ false → refused_entry OutOfRange ≡ worked_entry q₁ q₂ d (examined Call.Show d)
  worked_outside e =
      let f : (ltb q₁ (N1 h.case.holds) && ltb q₂ (N2 h.case.holds)) ≡ false = rw h.case.sizes at e in
      rw is_held (sym (cond_false _ _ _ f))

  pub state_below : (ltb q₁ z.states1 && ltb q₂ z.states2) ≡ true → (q₁ < get_or (part_at (take 24576 d.store) 1) 0 0) × (q₂ < get_or (part_at (take 24576 d.store) 2) 0 0)
  state_below e =
      let f : (ltb q₁ (N1 h.case.holds) && ltb q₂ (N2 h.case.holds)) ≡ true = rw h.case.sizes at e in
      rw (h.case.parts.model1, h.case.parts.model2) (ltb-true _ _ (and_l (ltb q₁ (N1 h.case.holds)) (ltb q₂ (N2 h.case.holds)) f), ltb-true _ _ (and_r (ltb q₁ (N1 h.case.holds)) (ltb q₂ (N2 h.case.holds)) f))

  pub worked_entry_lem : {whole : List ℕ} {e n : ℕ} → (ltb q₁ z.states1 && ltb q₂ z.states2) ≡ true → whole ≡ whole_table d → EntryIs w z.lattice (part_at (take 24576 d.store) 1) (part_at (take 24576 d.store) 2) whole q₁ q₂ e n → worked e n ≡ worked_entry q₁ q₂ d (examined Call.Show d)
  worked_entry_lem {whole} {e} {n} t p u =
      let f : (ltb q₁ (N1 h.case.holds) && ltb q₂ (N2 h.case.holds)) ≡ true = rw h.case.sizes at t in
      let v = rw (h.case.parts.model1, h.case.parts.model2, h.case.ops, p) at u.value_is in
      let k = rw (h.case.parts.model1, h.case.parts.model2, h.case.ops, p) at u.pairs_are in
      rw is_held (ap₂ (λ (x y : ℕ). worked x y) v k ∙ sym (cond_true _ _ _ f))

  pub pairs_fit : {whole : List ℕ} {e n : ℕ} → EntryIs w z.lattice (part_at (take 24576 d.store) 1) (part_at (take 24576 d.store) 2) whole q₁ q₂ e n → n ≤ 4096
  pairs_fit {whole} {e} {n} u =
      let m = pairs_most (ops_in w z.lattice) (model_of (part_at (take 24576 d.store) 1)) (model_of (part_at (take 24576 d.store) 2)) (table_of whole (get_or (part_at (take 24576 d.store) 2) 0 0)) q₁ q₂ in
      let k = rw (h.case.parts.model1, h.case.parts.model2) at (rw (← u.pairs_are) at m) in
      let g = rw h.case.sizes at (few h) in
      omega (arith, k, g)
