-- What a caller of the check learns of a case or a store from the answer. Rests on Answer, Accepted and Content.
-- The definitions are in specs/Caller.
--   when_accepted, when_refused: what follows from the answer; accepted_as: the same from the content
use Rattle.std.specs.Prelude.{ℕ, ◌≡◌, refl, List, Result, Ok, Err}
use Rattle.std.proofs.Common.{sym, ◌∙◌, arith}
use Rattle.theory.specs.Part.{ops_of}
use Rattle.elements.specs.Words.{ops_in}
use Rattle.lattice.specs.Answer.{CodesOf}
use Rattle.lattice.specs.Caller.{codes-ops, codes-coded}
use Rattle.refusal.specs.declared.Refusal.{Refusal}
use Rattle.casefile.specs.declared.Sizes.{Sizes}
use Rattle.casefile.specs.Reading.{Content, CaseReading, refused, content, case_reading}
use Rattle.casefile.specs.Answer.{sizes_of, case_answer, CaseAnswered}
use Rattle.casefile.specs.Placed.{accepted_placed}
use Rattle.casefile.proofs.Accepted.{written_most}
use Rattle.casefile.proofs.Content.{content_sound, parts_are}
use Rattle.casefile.specs.Caller.{AcceptedCase}

unfoldable pub accepted_as : (b : List ℕ) (c : Content) (s : Sizes) (w : List ℕ) → case_reading b ≡ content c → s ≡ sizes_of c → CodesOf c.lattice w → AcceptedCase b s w
accepted_as b c s w e q k =
    let h = content_sound b c e in
    let p : ops_in w s.lattice ≡ ops_of c.lattice = rw q (codes-ops c.lattice h.lattice_sound w k) in
    record {
      holds = c;
      reads = e;
      sizes = q;
      codes = k;
      ops = p;
      coded = rw q (codes-coded c.lattice h.lattice_sound w k);
      laws = rw p h.laws;
      sound = h;
      placed = accepted_placed b c e;
      parts = parts_are b c e;
      short = written_most b c e;
    }

pub when_accepted : (b : List ℕ) (r : Result Sizes Refusal) (s : Sizes) (t : List ℕ) → CaseAnswered b r t → r ≡ Ok s → AcceptedCase b s t
when_accepted b r s t w k = go (case_reading b) refl (sym k ∙ w.answer)
  where
    go : (x : CaseReading) → case_reading b ≡ x → Ok s ≡ case_answer x → AcceptedCase b s t
    go (refused f) e h = absurd (let z : ◌≡◌ {A = ℕ} 0 1 = cc in omega arith)
    go (content c) e h = let q : s ≡ sizes_of c = cc in accepted_as b c s t e q (w.codes c e)

-- after the answer that it is refused
pub when_refused : (b : List ℕ) (r : Result Sizes Refusal) (f : Refusal) (t : List ℕ) → CaseAnswered b r t → r ≡ Err f → case_reading b ≡ refused f
when_refused b r f t w k = go (case_reading b) (sym k ∙ w.answer)
  where
    go : (x : CaseReading) → Err f ≡ case_answer x → x ≡ refused f
    go (refused g) h = cc
    go (content c) h = absurd (let z : ◌≡◌ {A = ℕ} 0 1 = cc in omega arith)
