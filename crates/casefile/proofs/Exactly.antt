-- Which strings of bytes are cases, and with which content: conditions on the parts themselves, one field for each, in place of the tests
-- and the parse that the reading runs. Rests on Accepted, and on what is accepted of a single part: lattice's Accepted, model's Accepted, formula's RoundTrip.
use Rattle.std.specs.Prelude.{ℕ, ◌≡◌, true, ◌↔◌, List, get_or}
use Rattle.std.proofs.Common.{sym, ap, ◌∙◌}
use Rattle.theory.specs.Part.{LatticePart}
use Rattle.lattice.specs.Reading.{LatticeReading, lattice_reading, lattice_of, lattice_form}
use Rattle.lattice.specs.Accepted.{accepted_sound, lattice_exactly}
use Rattle.lattice.specs.DeMorgan.{DeMorganLattice}
use Rattle.model.proofs.Accepted.{model_exactly}
use Rattle.formula.specs.RoundTrip.{reading_exactly}
use Rattle.casefile.specs.Directory.{parts_of}
use Rattle.casefile.specs.Reading.{Content, content_parts, case_reading, content}
use Rattle.casefile.specs.Conditions.{Placed}
use Rattle.casefile.proofs.FormulaParts.{formulas_exactly}
use Rattle.casefile.proofs.Accepted.{case_exactly}
use Rattle.casefile.specs.Conditions.{PartsRead, FormulasRead}
use Rattle.casefile.specs.Conditions.{CaseOf}

-- the lattice that a lattice part is accepted with is the one that it gives
lattice_of_lem : (b : List ℕ) (P : LatticePart) → lattice_reading b ≡ LatticeReading.accepted P → (P ≡ lattice_of b) × (lattice_form b ≡ true) × DeMorganLattice P
lattice_of_lem b P e =
    let q : P ≡ lattice_of b = (accepted_sound b P e).0 in
    let w = (lattice_exactly b).0 (e ∙ ap LatticeReading.accepted q) in
    (q, w.0, rw q w.1)

of_lattice : (b : List ℕ) (P : LatticePart) → P ≡ lattice_of b → lattice_form b ≡ true → DeMorganLattice P → lattice_reading b ≡ LatticeReading.accepted P
of_lattice b P q f d = (lattice_exactly b).1 (f, rw q at d) ∙ ap LatticeReading.accepted (sym q)

-- A string of bytes is accepted with a content exactly when it is a case that holds this content.
pub content_exactly : (b : List ℕ) (c : Content) → (case_reading b ≡ content c) ↔ CaseOf b c
content_exactly b c = (λ e. let w = (case_exactly b c).0 e in there w.0 w.1 w.2, back)
  where
    k : ℕ
    k = get_or c.model1_bytes 1 0

    there : Placed b → parts_of b ≡ content_parts c → PartsRead c → CaseOf b c
    there p s r =
        let l = lattice_of_lem c.lattice_bytes c.lattice r.lattice_read in
        let m1 = (model_exactly c.lattice c.model1_bytes).0 r.model1_read in
        let m2 = (model_exactly c.lattice c.model2_bytes).0 r.model2_read in
        let fs = (formulas_exactly k 3 c.formula_bytes c.formulas).0 r.formulas_read in
        record {
          placed = p;
          parts = s;
          lattice_form_lem = l.1;
          lattice_is = l.0;
          de_morgan = l.2;
          shape1 = m1.0;
          valued1 = m1.1;
          shape2 = m2.0;
          valued2 = m2.1;
          same_propositions = r.same_propositions;
          as_many = fs.as_many;
          formula_bytes = λ f h. ((reading_exactly k _ _).0 (fs.each f h)).0;
          formula_most = λ f h. ((reading_exactly k _ _).0 (fs.each f h)).1;
          formula_allowed = λ f h. ((reading_exactly k _ _).0 (fs.each f h)).2;
        }

    back : CaseOf b c → case_reading b ≡ content c
    back h =
        let each : FormulasRead k c.formula_bytes c.formulas = record { as_many = h.as_many; each = λ f l. (reading_exactly k _ _).1 (h.formula_bytes f l, h.formula_most f l, h.formula_allowed f l) } in
        (case_exactly b c).1 (
          h.placed,
          h.parts,
          record {
            lattice_read = of_lattice c.lattice_bytes c.lattice h.lattice_is h.lattice_form_lem h.de_morgan;
            model1_read = (model_exactly c.lattice c.model1_bytes).1 (h.shape1, h.valued1);
            model2_read = (model_exactly c.lattice c.model2_bytes).1 (h.shape2, h.valued2);
            same_propositions = h.same_propositions;
            formulas_read = (formulas_exactly k 3 c.formula_bytes c.formulas).1 each;
          },
        )
