-- Demand 1 holds. Rests on Demand1, RefusedLaws, RulesLaws, casefile's Exactly and Numbered.
--   demand1: the demand holds of every call on every desk; at_13: what it says of 13
use Rattle.std.specs.Prelude.{ℕ, ◌<◌, ◌≡◌, refl, true, false, ◌↔◌, ◌⊎◌, List, []}
use Rattle.std.proofs.Common.{sym, ap, ap₂, ◌∙◌, inl, inr, ⊎_elim, arith}
use Rattle.std.proofs.Math.Option.{some}
use Rattle.theory.specs.TestLaws.{false_true, not_failed}
use Rattle.refusal.specs.declared.Refusal.{Refusal}
use Rattle.refusal.specs.declared.Refusal.TheVariants.{ShortDesk, SpoiledDesk, OutOfRange}
use Rattle.refusal.specs.Number.{number_of, part_of}
use Rattle.casefile.specs.Reading.{Content, CaseReading, refused, content, case_reading}
use Rattle.casefile.proofs.Accepted.{refused_content}
use Rattle.casefile.proofs.Exactly.{content_exactly}
use Rattle.casefile.specs.Numbered.{CaseRefused}
use Rattle.casefile.proofs.Numbered.{case-number, refused_as}
use Rattle.desk.specs.Desk.{Desk, Call, Reply, is_open, is_show}
use Rattle.desk.specs.View.{view_of}
use Rattle.desk.specs.Refused.{short, Rules, call_conditions, refusals_of, OneOf, examined, refused_reply}
use Rattle.desk.specs.Perform.{perform, answer}
use Rattle.desk.specs.Demand1.{InStore, Demand1}
use Rattle.desk.specs.RefusedLaws.{Outcome, too_short_lem, broken, outside, inside}
use Rattle.desk.proofs.RefusedLaws.{perform_refused, perform_accepted, is_short, open_long, in_store, open_accepted, other_accepted, outcome, opens_or_not, accepted_content, content_accepted}
use Rattle.desk.proofs.RulesLaws.{range_exactly, refusal_one}

refused_numbered : (k : Call) (r : Refusal) → is_show k ≡ false → refused_reply k r ≡ Reply.Refused (number_of r) (part_of r)
refused_numbered (Call.Open b) r e = refl
refused_numbered Call.Step r e = refl
refused_numbered Call.Show r e = absurd (false_true e refl)
refused_numbered (Call.Ask q) r e = refl

refused_shown : (k : Call) (r : Refusal) → is_show k ≡ true → refused_reply k r ≡ Reply.Shown []
refused_shown (Call.Open b) r e = absurd (false_true refl e)
refused_shown Call.Step r e = absurd (false_true refl e)
refused_shown Call.Show r e = refl
refused_shown (Call.Ask q) r e = absurd (false_true refl e)

-- an open on a desk that is long enough is answered number and part of the refusal of its case
open_given : (b : List ℕ) (d : Desk) → short d ≡ false → (n p : ℕ) → ((perform (Call.Open b) d).reply ≡ Reply.Refused n p) ↔ CaseRefused b n p
unfolding answer
open_given b d s n p = (
  go (case_reading b) refl,
  λ w. ap (λ x. x.reply) (perform_refused (Call.Open b) d w.0 (open_long b d s ∙ w.1)) ∙ ap₂ Reply.Refused w.2 w.3,
)
  where
    go : (x : CaseReading) → case_reading b ≡ x → (perform (Call.Open b) d).reply ≡ Reply.Refused n p → CaseRefused b n p
    go (refused r) h e =
        let a = ap (λ x. x.reply) (perform_refused (Call.Open b) d r (open_long b d s ∙ h)) in
        let q : Reply.Refused (number_of r) (part_of r) ≡ Reply.Refused n p = sym a ∙ e in
        (r, h, cc, cc)
    go (content c) h e =
        let a = ap (λ x. x.reply) (perform_accepted (Call.Open b) d c (open_long b d s ∙ h)) in
        let q : Reply.Opened ≡ Reply.Refused n p = sym a ∙ e in
        absurd (let z : ◌≡◌ {A = ℕ} 0 1 = cc in omega arith)

module _ (k : Call) (d : Desk) where
  -- one call gets one number
  same_number : (f g : Refusal) → examined k d ≡ refused f → examined k d ≡ refused g → number_of f ≡ number_of g
  same_number f g p q = let e : f ≡ g = cc in ap number_of e

  short_other : examined k d ≡ refused ShortDesk → Outcome k d → short d ≡ true
  short_other e (too_short_lem s p) = s
  short_other e (broken s n p) = absurd (omega (arith, same_number SpoiledDesk ShortDesk p e))
  short_other e (outside c u r i p) = absurd (omega (arith, same_number r ShortDesk p e, (refusal_one (view_of c d) (call_conditions k) r i).1))
  short_other e (inside c u i p) = absurd (refused_content (sym e ∙ p))

  -- no case is refused with 11
  short-only : examined k d ≡ refused ShortDesk → short d ≡ true
  short-only e = ⊎_elim opens (λ o. short_other e (outcome k d o)) (opens_or_not k)
    where
      opens : (b : List ℕ) × (k ≡ Call.Open b) → short d ≡ true
      opens (b, q) =
          not_failed (short d)
          (λ s. omega (arith, (case-number b ShortDesk (sym (open_long b d s) ∙ ap (λ (x : Call). examined x d) (sym q) ∙ e)).1))

  spoiled-only : examined k d ≡ refused SpoiledDesk → Outcome k d → (short d ≡ false) × ((c : Content) → ¬ Rules d c)
  spoiled-only e (too_short_lem s p) = absurd (omega (arith, same_number ShortDesk SpoiledDesk p e))
  spoiled-only e (broken s n p) = (s, n)
  spoiled-only e (outside c u r i p) = absurd (omega (arith, same_number r SpoiledDesk p e, (refusal_one (view_of c d) (call_conditions k) r i).1))
  spoiled-only e (inside c u i p) = absurd (refused_content (sym e ∙ p))

  spoiled_so : short d ≡ false → ((c : Content) → ¬ Rules d c) → Outcome k d → examined k d ≡ refused SpoiledDesk
  spoiled_so l w (too_short_lem s p) = absurd (false_true l s)
  spoiled_so l w (broken s n p) = p
  spoiled_so l w (outside c u r i p) = absurd (w c u.rules)
  spoiled_so l w (inside c u i p) = absurd (w c u.rules)

  tests_only : (f : Refusal) → 12 < number_of f → examined k d ≡ refused f → Outcome k d → (short d ≡ false) × InStore k d (some f)
  tests_only f l e (too_short_lem s p) = absurd (omega (arith, same_number ShortDesk f p e))
  tests_only f l e (broken s n p) = absurd (omega (arith, same_number SpoiledDesk f p e))
  tests_only f l e (outside c u r i p) = let q : r ≡ f = cc in (u.long, (c, u.rules, i ∙ ap some q))
  tests_only f l e (inside c u i p) = absurd (refused_content (sym e ∙ p))

  others : (r : Refusal) → examined k d ≡ refused r → Outcome k d → (r ≡ ShortDesk) ⊎ ((r ≡ SpoiledDesk) ⊎ OneOf r (refusals_of (call_conditions k)))
  others r e (too_short_lem s p) = inl (cc)
  others r e (broken s n p) = inr (inl (cc))
  others r e (outside c u f i p) = let q : f ≡ r = cc in inr (inr (refusal_one (view_of c d) (call_conditions k) r (i ∙ ap some q)).0)
  others r e (inside c u i p) = absurd (refused_content (sym e ∙ p))

  pub demand1 : Demand1 k d
  demand1 =
      record {
        alters_nothing = λ r e. ap (λ x. x.desk) (perform_refused k d r e);
        lent_unchanged = λ r e. ap (λ x. x.lent) (perform_refused k d r e);
        numbered = λ r s e. ap (λ x. x.reply) (perform_refused k d r e) ∙ refused_numbered k r s;
        show_refused = λ r s e. ap (λ x. x.reply) (perform_refused k d r e) ∙ refused_shown k r s;
        at_11 = (short-only, is_short k d);
        refused_as = λ b q s. refused_as b _ (λ n p. rw q (open_given b d s n p));
        at_12 = λ o. (λ e. spoiled-only e (outcome k d o), λ w. spoiled_so w.0 w.1 (outcome k d o));
        after_12 = λ o r l. (λ e. tests_only r l e (outcome k d o), λ w. in_store k d w.1.0 o (record { long = w.0; rules = w.1.1 }) ∙ rw w.1.2);
        ranges = range_exactly;
        only = λ o r e. others r e (outcome k d o);
        case_accepted = content_exactly;
        open_accepted = λ b q. (
          λ a.
              let w = accepted_content k d a in
              let v = open_accepted b d w.0 (ap (λ (x : Call). examined x d) (sym q) ∙ w.1) in
              (v.long, (w.0, (content_exactly b w.0).0 v.reads)),
          λ w. content_accepted k d w.1.0 (ap (λ (x : Call). examined x d) q ∙ open_long b d w.0 ∙ (content_exactly b w.1.0).1 w.1.1),
        );
        other_accepted = λ o. (
          λ a. let w = accepted_content k d a in let v = other_accepted k d w.0 o w.1 in (v.held.long, (w.0, v.held.rules, v.range)),
          λ w. content_accepted k d w.1.0 (in_store k d w.1.0 o (record { long = w.0; rules = w.1.1 }) ∙ rw w.1.2),
        );
      }

  -- ---- 13 among the refusals after 12

  pub at_13 : is_open k ≡ false → (examined k d ≡ refused OutOfRange) ↔ ((short d ≡ false) × InStore k d (some OutOfRange))
  at_13 o = demand1.after_12 o OutOfRange (omega arith)
