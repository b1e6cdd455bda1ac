-- 'The first that applies is given': laws of a test with its own answer where it fails, and what is found next where it is passed; and that
-- number and part tell the refusals apart. Rests on Number.
--   first_here: the test's own answer is given exactly when its condition is broken
--   first_later: another is given exactly when the condition holds and it is given next; first_never: it is not given
--   refusal_unique: refusals with the same number and part are the same; late_part: those from 11 on name no part
use Rattle.std.specs.Prelude.{ℕ, ◌<◌, ◌≡◌, refl, Bool, true, false, cond, ◌↔◌, eqb}
use Rattle.std.proofs.Common.{sym, ap₂, ◌∙◌, arith}
use Rattle.refusal.specs.declared.Refusal.{Refusal}
use Rattle.refusal.specs.declared.Refusal.TheVariants.{ShortDesk, CaseSize, Directory, PartPlace, LatticeForm, NoPartialOrder, NoMeetOrJoin, NotDistributive, BadComplement, BadModel, BadFormula, SpoiledDesk, OutOfRange, ShortBuffer}
use Rattle.refusal.specs.Number.{number_of, part_of}

failed : {A : Type 0} → ◌≡◌ {A = Bool} false true → A
failed e = absurd (let z : ◌≡◌ {A = ℕ} 0 1 = cc in omega arith)

-- C is what the test t asks; `own` is given where it fails
pub first_here : {A C : Type 0} {next own : A} (t : Bool) → (t ≡ true) ↔ C → (next ≡ own → ⊥) → (cond t next own ≡ own) ↔ (¬ C)
first_here true w n = (λ e. absurd (n e), λ h. absurd (h (w.0 refl)))
first_here false w n = (λ e c. failed (w.1 c), λ h. refl)

pub first_later : {A C X : Type 0} {next own other : A} (t : Bool) → (t ≡ true) ↔ C → (own ≡ other → ⊥)
    → (next ≡ other) ↔ X → (cond t next own ≡ other) ↔ (C × X)
first_later true w n x = (λ e. (w.0 refl, x.0 e), λ h. x.1 h.1)
first_later false w n x = (λ e. absurd (n e), λ h. failed (w.1 h.0))

pub first_never : {A : Type 0} {next own other : A} (t : Bool) → (own ≡ other → ⊥) → (next ≡ other → ⊥) → cond t next own ≡ other → ⊥
first_never true n m e = m e
first_never false n m e = n e

-- the refusal of a number and a part
refusal_of : ℕ → ℕ → Refusal
refusal_of n p =
    cond (eqb n 1) CaseSize
    (cond (eqb n 2) Directory
    (cond (eqb n 3) (PartPlace p)
    (cond (eqb n 4) LatticeForm
    (cond (eqb n 5) NoPartialOrder
    (cond (eqb n 6) NoMeetOrJoin
    (cond (eqb n 7) NotDistributive
    (cond (eqb n 8) BadComplement
    (cond (eqb n 9) (BadModel p)
    (cond (eqb n 10) (BadFormula p)
    (cond (eqb n 11) ShortDesk
    (cond (eqb n 12) SpoiledDesk
    (cond (eqb n 13) OutOfRange ShortBuffer))))))))))))

refusal_back : (r : Refusal) → refusal_of (number_of r) (part_of r) ≡ r
unfolding refusal_of
refusal_back ShortDesk = refl
refusal_back CaseSize = refl
refusal_back Directory = refl
refusal_back (PartPlace p) = refl
refusal_back LatticeForm = refl
refusal_back NoPartialOrder = refl
refusal_back NoMeetOrJoin = refl
refusal_back NotDistributive = refl
refusal_back BadComplement = refl
refusal_back (BadModel p) = refl
refusal_back (BadFormula p) = refl
refusal_back SpoiledDesk = refl
refusal_back OutOfRange = refl
refusal_back ShortBuffer = refl

pub refusal_unique : (r s : Refusal) → number_of r ≡ number_of s → part_of r ≡ part_of s → r ≡ s
refusal_unique r s n p = sym (refusal_back r) ∙ ap₂ refusal_of n p ∙ refusal_back s

-- 'From here on a new refusal gives part 255' (request 105), as 11, 12 and 13 do
pub late_part : (r : Refusal) → 10 < number_of r → part_of r ≡ 255
late_part ShortDesk l = refl
late_part CaseSize l = absurd (omega arith)
late_part Directory l = absurd (omega arith)
late_part (PartPlace p) l = absurd (omega arith)
late_part LatticeForm l = absurd (omega arith)
late_part NoPartialOrder l = absurd (omega arith)
late_part NoMeetOrJoin l = absurd (omega arith)
late_part NotDistributive l = absurd (omega arith)
late_part BadComplement l = absurd (omega arith)
late_part (BadModel p) l = absurd (omega arith)
late_part (BadFormula p) l = absurd (omega arith)
late_part SpoiledDesk l = refl
late_part OutOfRange l = refl
late_part ShortBuffer l = refl
