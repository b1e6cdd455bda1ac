-- What holds of an accepted case, and its gapless form: the same content, and its greatest length.
-- Rests on Reading, Placed, Laid and FormulaParts.
-- The definitions are in specs/Accepted.
--   case_exactly: a case is accepted exactly when its parts stand where they may, are those of the content, and pass their tests
--   part_length, parts_length, parts_four: the parts of a placed case
--   gapless_most, written_most: the gapless form has at most 16,618 bytes
--   gapless_reads, store_reads, written_reads: it is read as the same content, in a store too
--   content_unique, same_gapless: the same parts give the same content and the same gapless form
use Rattle.std.specs.Prelude.{ℕ, zero, suc, ◌+◌, ◌*◌, ◌-◌, ◌≤◌, ◌<◌, ◌≡◌, refl, Bool, true, false, ◌||◌, ◌↔◌, List, [], ◌∷◌, ◌++◌, eqb, length, get_or, take}
use Rattle.std.proofs.Common.{sym, ap, ◌∙◌, arith, eqb-true, eq-eqb, length-append, length-take, length-drop}
use Rattle.std.proofs.Math.Seq.{take-append-add}
use Rattle.theory.specs.Formula.{Formula}
use Rattle.theory.specs.Lattice.{All}
use Rattle.theory.specs.Part.{LatticePart, ModelShape}
use Rattle.theory.specs.TestLaws.{and_l, and_r}
use Rattle.refusal.specs.declared.Refusal.TheVariants.{LatticeForm}
use Rattle.lattice.specs.Reading.{LatticeReading, lattice_reading, lattice_of, lattice_form, is_panel, explicit_form, part_reading, require}
use Rattle.lattice.specs.Numbered.{explicit_out}
use Rattle.model.specs.Places.{prod_le}
use Rattle.model.specs.Reading.{model_test}
use Rattle.model.proofs.Accepted.{accepted_shape}
use Rattle.formula.specs.RoundTrip.{formula_part}
use Rattle.casefile.specs.Directory.{part_count, part_size, part_at, parts_from, parts_of}
use Rattle.casefile.specs.Reading.{Content, content_parts, FormulasReading, formulas_reading, after_formulas, models_reading, after_lattice, parts_reading, case_reading, store_reading, content, refused_at, read}
use Rattle.casefile.proofs.ModelsRead.{past_models}
pub use Rattle.casefile.proofs.ModelsRead.{refused_content}
use Rattle.casefile.specs.Gapless.{joined, gapless}
use Rattle.casefile.specs.Placed.{placed_reading, accepted_placed}
use Rattle.casefile.specs.Conditions.{Placed, FormulasRead, PartsRead}
use Rattle.casefile.specs.Laid.{gapless-length, gapless_reading}
use Rattle.casefile.proofs.FormulaParts.{formulas_read, read_less}
use Rattle.casefile.specs.Accepted.{ContentOf, Accepted}

module _ (l m1 m2 : List ℕ) (fs : List (List ℕ)) (c : Content) where
  from_formulas_lem : (P : LatticePart) (x : FormulasReading) → lattice_reading l ≡ LatticeReading.accepted P → model_test P.size m1 ≡ true → model_test P.size m2 ≡ true → get_or m1 1 0 ≡ get_or m2 1 0 → formulas_reading (get_or m1 1 0) 3 fs ≡ x → after_formulas l P m1 m2 fs x ≡ content c → ContentOf l m1 m2 fs c
  from_formulas_lem P (refused_at i) a s t k f e = absurd (refused_content e)
  from_formulas_lem P (read φs) a s t k f e =
      let q : ◌≡◌ {A = Content} (record { lattice_bytes = l; model1_bytes = m1; model2_bytes = m2; formula_bytes = fs; lattice = P; formulas = φs }) c = cc in
      rw (← q) (record { is = refl; reads = record { lattice_read = a; model1_read = s; model2_read = t; same_propositions = k; formulas_read = f } })

  from_models_lem : (P : LatticePart) → lattice_reading l ≡ LatticeReading.accepted P → models_reading l P m1 m2 fs ≡ content c → ContentOf l m1 m2 fs c
  from_models_lem P a e =
      let w = (past_models l P m1 m2 fs (content c) (λ i. refused_content)).0 e in
      let t = w.1.0 in
      from_formulas_lem P (formulas_reading (get_or m1 1 0) 3 fs) a w.0 (and_l (model_test P.size m2) _ t)
      (eqb-true _ _ (and_r (model_test P.size m2) (eqb (get_or m1 1 0) (get_or m2 1 0)) t)) refl w.1.1

  from_lattice_lem : (x : LatticeReading) → lattice_reading l ≡ x → after_lattice l x m1 m2 fs ≡ content c → ContentOf l m1 m2 fs c
  from_lattice_lem (LatticeReading.refused r) a e = absurd (refused_content e)
  from_lattice_lem (LatticeReading.accepted P) a e = from_models_lem P a e

  pub content_of : parts_reading l m1 m2 fs ≡ content c → ContentOf l m1 m2 fs c
  content_of e = from_lattice_lem (lattice_reading l) refl e

-- ---- the parts of a placed case

pub part_length : (b : List ℕ) → Placed b → (i : ℕ) → i < part_count b → length (part_at b i) ≡ part_size b i
part_length b p i l = simp (length-take, length-drop) (omega (arith, (p.each i l).within))

pub parts_length : (b : List ℕ) (i n : ℕ) → length (parts_from b i n) ≡ n
unfolding parts_from
parts_length b i zero = refl
parts_length b i (suc n) = ap suc (parts_length b (suc i) n)

parts_some : (b : List ℕ) → Placed b → (i n : ℕ) → i + n ≤ part_count b → All (λ p. 0 < length p) (parts_from b i n)
unfolding parts_from
parts_some b p i zero l = tt
parts_some b p i (suc n) l = (omega (arith, part_length b p i (omega arith), (p.each i (omega arith)).some), parts_some b p (suc i) n (omega arith))

-- the first three parts, and the others
pub parts_four : (b : List ℕ) → 3 ≤ part_count b → parts_of b ≡ part_at b 0 ∷ part_at b 1 ∷ part_at b 2 ∷ parts_from b 3 (part_count b - 3)
unfolding parts_from
parts_four b l =
    let e : part_count b ≡ suc (suc (suc (part_count b - 3))) = omega arith in
    ap (parts_from b 0) e

-- ---- an accepted case

pub accepted_case : (b : List ℕ) (c : Content) → case_reading b ≡ content c → Accepted b c
accepted_case b c e = go (accepted_placed b c e)
  where
    go : Placed b → Accepted b c
    go p =
        let d = p.directory in
        let q = sym (placed_reading b p) ∙ e in
        let k = content_of (part_at b 0) (part_at b 1) (part_at b 2) (parts_from b 3 (part_count b - 3)) c q in
        let s : parts_of b ≡ content_parts c = parts_four b d.count_least ∙ sym k.is in
        record {
          placed = p;
          parts = s;
          reads = k.reads;
          some = rw s at (parts_some b p 0 (part_count b) (omega arith));
          few = omega (arith, ap length s, parts_length b 0 (part_count b));
          again = cc (k.is, q);
        }

-- the content of parts that pass their tests
parts_read : (c : Content) → PartsRead c → parts_reading c.lattice_bytes c.model1_bytes c.model2_bytes c.formula_bytes ≡ content c
unfolding models_reading
parts_read c r = simp (r.lattice_read, r.model1_read, r.model2_read, eq-eqb _ _ r.same_propositions, r.formulas_read)

-- A case is accepted with a content exactly when its parts stand where they may, are those of the content, and pass their tests.
pub case_exactly : (b : List ℕ) (c : Content) → (case_reading b ≡ content c) ↔ (Placed b × (parts_of b ≡ content_parts c) × PartsRead c)
case_exactly b c = (λ e. let a = accepted_case b c e in (a.placed, a.parts, a.reads), λ w. back w.0 w.1 w.2)
  where
    back : Placed b → parts_of b ≡ content_parts c → PartsRead c → case_reading b ≡ content c
    back p s r =
        let q : part_at b 0 ∷ part_at b 1 ∷ part_at b 2 ∷ parts_from b 3 (part_count b - 3) ≡ content_parts c = sym (parts_four b p.directory.count_least) ∙ s in
        placed_reading b p ∙ cc (q, parts_read c r)

-- ---- lengths

form_passes : (l : List ℕ) (P : LatticePart) → lattice_reading l ≡ LatticeReading.accepted P → lattice_form l ≡ true
unfolding lattice_reading require
form_passes l P e = go (lattice_form l) e
  where
    go : (t : Bool) → require t LatticeForm (part_reading (lattice_of l)) ≡ LatticeReading.accepted P → t ≡ true
    go true f = refl
    go false f = absurd (let z : ◌≡◌ {A = ℕ} 0 1 = cc in omega arith)

form_most : (l : List ℕ) → lattice_form l ≡ true → length l ≤ 4161
unfolding lattice_form is_panel
form_most l t = go (is_panel l) refl t
  where
    n : ℕ
    n = get_or l 0 0

    go : (p : Bool) → is_panel l ≡ p → (p || explicit_form n l) ≡ true → length l ≤ 4161
    go true e f = omega (arith, eqb-true (length l) 1 (and_l (eqb (length l) 1) (eqb n 0) e))
    go false e f = let w = explicit_out n l f in omega (arith, w.exact, w.most, prod_le n n 64 64 w.most w.most)

model_most : (b : List ℕ) → ModelShape b → length b ≤ 5186
model_most b s =
    omega (arith, s.exact, s.states_most, prod_le (get_or b 0 0) (get_or b 1 0) 64 16 s.states_most s.propositions_most, prod_le (get_or b 0 0) (get_or b 0 0) 64 64 s.states_most s.states_most)

-- a part that is read as a formula has at most 255 bytes
formulas_short : (k : ℕ) (ps : List (List ℕ)) (φs : List Formula) → FormulasRead k ps φs → All (λ p. length p ≤ 255) ps
formulas_short k [] φs h = tt
formulas_short k (p ∷ ps) [] h = absurd (omega (arith, h.as_many))
formulas_short k (p ∷ ps) (φ ∷ φs) h = let w = read_less k p ps φ φs h in ((formula_part k p φ w.0).most, formulas_short k ps φs w.1)

joined_most : (ps : List (List ℕ)) → All (λ p. length p ≤ 255) ps → length (joined ps) ≤ 255 * length ps
unfolding joined
joined_most [] h = omega arith
joined_most (p ∷ ps) h = omega (arith, length-append p (joined ps), joined_most ps h.1, h.0)

joined_length : (l m1 m2 : List ℕ) (fs : List (List ℕ)) → length (joined (l ∷ m1 ∷ m2 ∷ fs)) ≡ length l + length m1 + length m2 + length (joined fs)
unfolding joined
joined_length l m1 m2 fs = omega (arith, length-append l (m1 ++ (m2 ++ joined fs)), length-append m1 (m2 ++ joined fs), length-append m2 (joined fs))

-- ---- the gapless form of an accepted case

-- 1 + 4·11 bytes of directory, 4,161 of the lattice, 5,186 of each model, 255 of each of 8 formulas
pub gapless_most : (b : List ℕ) (c : Content) → case_reading b ≡ content c → length (gapless (content_parts c)) ≤ 16618
gapless_most b c e = go (accepted_case b c e)
  where
    go : Accepted b c → length (gapless (content_parts c)) ≤ 16618
    go a =
        let r = a.reads in
        let s = formulas_short _ _ _ (formulas_read (get_or c.model1_bytes 1 0) 3 c.formula_bytes c.formulas r.formulas_read) in
        omega (
          arith,
          gapless-length (content_parts c),
          joined_length c.lattice_bytes c.model1_bytes c.model2_bytes c.formula_bytes,
          form_most c.lattice_bytes (form_passes c.lattice_bytes c.lattice r.lattice_read),
          model_most c.model1_bytes (accepted_shape c.lattice.size c.model1_bytes r.model1_read),
          model_most c.model2_bytes (accepted_shape c.lattice.size c.model2_bytes r.model2_read),
          joined_most c.formula_bytes s,
          a.few,
        )

-- the gapless form of an accepted case, with any bytes after it, reads as the same content
pub gapless_reads : (b : List ℕ) (c : Content) → case_reading b ≡ content c → (r : List ℕ) → length (gapless (content_parts c) ++ r) ≤ 32768 → case_reading (gapless (content_parts c) ++ r) ≡ content c
gapless_reads b c e r l = go (accepted_case b c e)
  where
    go : Accepted b c → case_reading (gapless (content_parts c) ++ r) ≡ content c
    go a = gapless_reading c.lattice_bytes c.model1_bytes c.model2_bytes c.formula_bytes r a.some a.few l ∙ a.again

-- a store that begins with it does too
front_past : (n : ℕ) (g r : List ℕ) → length g ≤ n → take n (g ++ r) ≡ g ++ take (n - length g) r
front_past n g r l = let e : n ≡ length g + (n - length g) = omega arith in ap (λ (k : ℕ). take k (g ++ r)) e ∙ take-append-add g r (n - length g)

front_length : (n : ℕ) (g r : List ℕ) → length g ≤ n → length (g ++ take (n - length g) r) ≤ n
front_length n g r l = simp (length-append, length-take) (omega arith)

pub store_reads : (b : List ℕ) (c : Content) → case_reading b ≡ content c → (r : List ℕ) → store_reading (gapless (content_parts c) ++ r) ≡ content c
store_reads b c e r =
    let m : length (gapless (content_parts c)) ≤ 24576 = omega (arith, gapless_most b c e) in
    rw (front_past 24576 (gapless (content_parts c)) r m)
    (gapless_reads b c e (take (24576 - length (gapless (content_parts c))) r)
    (omega (arith, front_length 24576 (gapless (content_parts c)) r m)))

-- the same of the parts that a case holds, as they are written
pub written_most : (b : List ℕ) (c : Content) → case_reading b ≡ content c → length (gapless (parts_of b)) ≤ 16618
written_most b c e = rw (accepted_case b c e).parts (gapless_most b c e)

pub written_reads : (b : List ℕ) (c : Content) → case_reading b ≡ content c → (r : List ℕ) → store_reading (gapless (parts_of b) ++ r) ≡ content c
written_reads b c e r = rw (accepted_case b c e).parts (store_reads b c e r)

-- cases with the same parts have the same content, and the same gapless form
pub content_unique : (b d : List ℕ) (c f : Content) → case_reading b ≡ content c → case_reading d ≡ content f → content_parts c ≡ content_parts f → c ≡ f
content_unique b d c f p q e = go (accepted_case b c p) (accepted_case d f q)
  where
    go : Accepted b c → Accepted d f → c ≡ f
    go a h = cc (e, a.again, h.again)

pub same_gapless : (b d : List ℕ) (c f : Content) → case_reading b ≡ content c → case_reading d ≡ content f → parts_of b ≡ parts_of d → gapless (content_parts c) ≡ gapless (content_parts f)
same_gapless b d c f p q e = ap gapless (sym (accepted_case b c p).parts ∙ e ∙ (accepted_case d f q).parts)
