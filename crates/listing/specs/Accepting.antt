-- What the code of the listing knows of an accepted case. Rests on Text, Lines, Settling, Settled, Most and casefile's Caller.
--   accepted_case: a case that is answered so is accepted
--   InCase: formula f and model m of a case; model_over, formula_on_model, whole_is: they can be valued, and the whole value found is that of its content
--   FormulaFits, FormulasFit, PutsFormula, PutsFormulas: the terms of the contracts; formulas_fit, formulas_are, formulas_room: where the room comes from
--   settleable: the models of the case can be settled, with room for the text; settled_part_lem: what is then written
--   all_written, lists, lists_refused: what is written is the text of the case
--   content_unique: a case has one content
use Rattle.std.specs.Prelude.{ℕ, ◌+◌, ◌≤◌, ◌<◌, ◌≡◌, refl, true, List, Ok}
use Rattle.std.proofs.Common.{sym, ◌∙◌, zero-add, arith, length-take-le}
use Rattle.std.proofs.Math.Path.{ap}
use Rattle.std.proofs.Math.ListN.{length}
use Rattle.theory.specs.Value.{whole_value}
use Rattle.elements.specs.declared.algebra.Algebra.{Algebra}
use Rattle.refusal.specs.declared.Refusal.{Refusal}
use Rattle.casefile.specs.declared.Sizes.{Sizes}
use Rattle.casefile.specs.Directory.{part_at}
use Rattle.casefile.specs.Reading.{Content, refused, content, case_reading}
use Rattle.casefile.specs.Answer.{CaseAnswered}
use Rattle.casefile.specs.Caller.{AcceptedCase}
use Rattle.casefile.proofs.Caller.{when_accepted}
use Rattle.entries.specs.declared.table.Models.{Models}
use Rattle.valuer.specs.Values.{ModelOver, WholeValue}
use Rattle.desk.specs.CaseParts.{FormulaOnModel}
use Rattle.desk.proofs.CaseParts.{model_part, model_valued, formula_part, parts_formula_on_model}
use Rattle.desk.specs.Refused.{is_model}
use Rattle.desk.specs.Case.{ops, model1, model2, model_in, formula_in, round_in}
use Rattle.listing.specs.Text.{each, formula_line, formulas_text, table_text, refused_text, settled_round, accepted_text, listing_text, Lists}
use Rattle.listing.specs.declared.writing.Text.{Text}
use Rattle.listing.specs.Writing.{Wrote, wrote_within}
use Rattle.listing.specs.Lines.{Room, Puts, puts_then, room_then}
use Rattle.listing.specs.Settling.{Settleable, WroteSettled}
use Rattle.listing.specs.Most.{table_most, text_most}
use Rattle.listing.specs.Settled.{settled_is_T, listing_is}

-- a case is read as one content
pub content_unique : (b : List ℕ) (c d : Content) → case_reading b ≡ content c → case_reading b ≡ content d → c ≡ d
content_unique b c d p q = cc

-- after the answer that the case b is accepted with the sizes z, and the codes w
pub accepted_case : {b : List ℕ} {z : Sizes} {w : List ℕ} → CaseAnswered b (Ok z) w → AcceptedCase b z w
accepted_case {b} {z} {w} h = when_accepted b (Ok z) z w h refl

-- ---- a formula's value on model 1 or 2

-- formula f and model m of the case b, with its sizes z and the codes w
pub record InCase (b : List ℕ) (z : Sizes) (w : List ℕ) (f m : ℕ) : Type 0 where
  pub case : AcceptedCase b z w
  pub formula : f < z.formulas
  pub model : is_model m ≡ true

module _ {b : List ℕ} {z : Sizes} {w : List ℕ} {f m : ℕ} (h : InCase b z w f m) where
  abbrev held : Content
  held = h.case.holds

  pub model_over : ModelOver w z.lattice (part_at b m)
  model_over = record { coded = h.case.coded; shape = (model_part h.case m h.model).shape; valued = model_valued h.case m h.model }

  pub formula_on_model : FormulaOnModel b f m
  formula_on_model = parts_formula_on_model h.case f m h.formula h.model

  pub whole_is : (x : ℕ) → WholeValue w z.lattice (part_at b m) (part_at b (3 + f)) x → (c : Content) → case_reading b ≡ content c → x ≡ whole_value (ops c) (model_in c m) (formula_in c f)
  whole_is x v c e = rw (← content_unique b held c h.case.reads e) (rw ((model_part h.case m h.model).is, h.case.ops) at (v.is (formula_in held f) (formula_part h.case f m h.formula h.model)))

-- ---- the formulas' lines

-- there is room in the text t for the line of formula f of the case b, and for those of all formulas
abbrev pub FormulaFits : List ℕ → ℕ → Text → Type 0
FormulaFits b f t = (c : Content) → case_reading b ≡ content c → Room t (formula_line c f)

abbrev pub FormulasFit : List ℕ → Text → Type 0
FormulasFit b t = (c : Content) → case_reading b ≡ content c → Room t (formulas_text c)

-- they are put into the text t, which became u
abbrev pub PutsFormula : List ℕ → ℕ → Text → Text → Type 0
PutsFormula b f t u = (c : Content) → case_reading b ≡ content c → Puts t (formula_line c f) u

abbrev pub PutsFormulas : List ℕ → Text → Text → Type 0
PutsFormulas b t u = (c : Content) → case_reading b ≡ content c → Puts t (formulas_text c) u

module _ {b : List ℕ} {z : Sizes} {w : List ℕ} (a : AcceptedCase b z w) (c : Content) (e : case_reading b ≡ content c) where
  pub formulas_are : each z.formulas (formula_line c) ≡ formulas_text c
  unfolding formulas_text
  formulas_are = let q : a.holds ≡ c = content_unique b a.holds c a.reads e in ap (λ (n : ℕ). each n (formula_line c)) (ap (λ (x : Sizes). x.formulas) a.sizes ∙ ap (λ (x : Content). length x.formulas) q)

  pub formulas_room : (t : Text) → FormulasFit b t → Room t (each z.formulas (formula_line c))
  formulas_room t h = rw formulas_are (h c e)

-- ---- the settled table

module _ {b : List ℕ} {z : Sizes} {w : List ℕ} (a : AcceptedCase b z w) where
  -- the text of the settled table; the formulas' lines come after it
  abbrev settled_part : List ℕ
  settled_part = let c = a.holds in table_text (ops c) (model1 c) (model2 c) (settled_round c) (round_in c (settled_round c))

  -- the lattice and the models of the case
  module _ (x : Algebra) (m : Models) (codes : x.codes.now.words ≡ w) (lattice : x.lattice ≡ z.lattice) (first : m.first.bytes.now ≡ part_at b 1) (second : m.second.bytes.now ≡ part_at b 2) where
    pub settleable : (t : Text) → t.at + 12957 ≤ length t.bytes.now → Settleable x m t
    settleable t fit = record {
      laws = rw (codes, lattice) a.laws;
      room = rw (codes, lattice, first ∙ a.parts.model1, second ∙ a.parts.model2, a.ops) (λ T f. omega (arith, fit, table_most b a.holds a.reads T f));
    }

    pub settled_part_lem : (t u : Text) → WroteSettled x m t u → Puts t settled_part u
    settled_part_lem t u h = (rw (codes, lattice, first ∙ a.parts.model1, second ∙ a.parts.model2, a.ops) at h) (settled_round a.holds) (settled_is_T a.holds a.sound)

  abbrev whole_text : List ℕ
  whole_text = accepted_text a.holds (settled_round a.holds)

  fits : (t : Text) → t.at + 12957 ≤ length t.bytes.now → Room t whole_text
  fits t l = omega (arith, l, text_most b a.holds a.reads (settled_round a.holds) (settled_is_T a.holds a.sound))

  pub formulas_fit : (t u : Text) → t.at + 12957 ≤ length t.bytes.now → Puts t settled_part u → FormulasFit b u
  unfolding accepted_text
  formulas_fit t u l p c e = rw (← content_unique b a.holds c a.reads e) (room_then (formulas_text a.holds) (fits t l) p)

  pub all_written : (t u v : Text) → Puts t settled_part u → PutsFormulas b u v → Puts t (listing_text b) v
  unfolding accepted_text
  all_written t u v p q = rw (listing_is b a.holds a.reads (settled_round a.holds) (settled_is_T a.holds a.sound)) (puts_then p (q a.holds a.reads))

-- ---- the whole text

pub lists : (b d e : List ℕ) (n : ℕ) → Wrote d 0 (listing_text b) e n → Lists b d e n
lists b d e n w = record { count = w.next_is ∙ zero-add _; bytes = w.out_is; within = wrote_within w; first = sym (length-take-le n e (wrote_within w)) }

pub lists_refused : (b d e : List ℕ) (n : ℕ) (f : Refusal) → case_reading b ≡ refused f → Wrote d 0 (refused_text f) e n → Lists b d e n
lists_refused b d e n f r w = lists b d e n (rw r w)
