-- Theorems on which refusal a call gets, or the content that it works on: for demand 1, demand 3 and the proofs of the code.
-- Rests on Refused, Perform, Run and RulesLaws.
-- The definitions are in specs/RefusedLaws.
--   perform_refused, perform_accepted: what a call does, from its examination
--   is_short, open_long, is_spoiled, in_store: which refusal, and when; Unspoiled: neither 11 nor 12 applies
--   accepted_content, refused_refusal, content_accepted: accepted or refused, and never both; unrefused_accepted: a question that answers no refusal
--     is accepted; answered_reply: what an accepted question answers, from a view
use Rattle.std.specs.Prelude.{ℕ, ◌≡◌, refl, Bool, true, false, cond, not, ◌⊎◌, List}
use Rattle.std.proofs.Common.{sym, ap, ◌∙◌, inl, inr}
use Rattle.std.proofs.Math.Option.{Option, none, some}
use Rattle.theory.specs.TestLaws.{false_true, not_failed}
use Rattle.refusal.specs.declared.Refusal.{Refusal}
use Rattle.refusal.specs.declared.Refusal.TheVariants.{ShortDesk, SpoiledDesk}
use Rattle.casefile.specs.Reading.{Content, CaseReading, refused, content, case_reading, store_reading}
use Rattle.casefile.proofs.Accepted.{refused_content}
use Rattle.desk.specs.Desk.{Desk, Question, Call, Reply, is_open, call_lent_buffers}
use Rattle.desk.specs.View.{View, view_of}
use Rattle.desk.specs.Refused.{short, obeys_for, spoiled_as, spoiled, call_conditions, first_refusal, after_rules, of_store, after_short, examined, is_content, accepted, number_reply, refused_reply}
use Rattle.desk.specs.Perform.{answer_to, perform, performed, asked, answer, moved, lent_after}
use Rattle.desk.specs.Run.{AnsweredFrom}
use Rattle.desk.proofs.RulesLaws.{rules_in, spoiled_exactly}
use Rattle.desk.specs.RefusedLaws.{Unspoiled, OpenAccepted, Outcome, OtherAccepted, too_short_lem, broken, outside, inside}

-- ---- 'a refusal alters nothing'

pub perform_refused : (k : Call) (d : Desk) (r : Refusal) → examined k d ≡ refused r → perform k d ≡ record { reply = refused_reply k r; desk = d; lent = call_lent_buffers k }
unfolding perform
perform_refused k d r e = let z : performed k d (refused r) ≡ record { reply = refused_reply k r; desk = d; lent = call_lent_buffers k } = refl in ap (performed k d) e ∙ z

pub perform_accepted : (k : Call) (d : Desk) (c : Content) → examined k d ≡ content c → perform k d ≡ record { reply = answer k c d; desk = moved k c d; lent = lent_after k c d }
unfolding perform
perform_accepted k d c e = ap (performed k d) e

-- a call opens or does not
pub opens_or_not : (k : Call) → ((b : List ℕ) × (k ≡ Call.Open b)) ⊎ (is_open k ≡ false)
opens_or_not (Call.Open b) = inl (b, refl)
opens_or_not Call.Step = inr refl
opens_or_not Call.Show = inr refl
opens_or_not (Call.Ask q) = inr refl

-- ---- which refusal, and when: 'open uses 11 and 1 to 10, the other calls 11, 12' and those of their own conditions, the first that applies

pub is_short : (k : Call) (d : Desk) → short d ≡ true → examined k d ≡ refused ShortDesk
unfolding examined
is_short k d s = ap (λ (b : Bool). cond b (refused ShortDesk) (after_short k d)) s

pub open_long : (b : List ℕ) (d : Desk) → short d ≡ false → examined (Call.Open b) d ≡ case_reading b
unfolding examined
open_long b d s = ap (λ (t : Bool). cond t (refused ShortDesk) (case_reading b)) s

-- every other call goes by the store
after_store : (k : Call) (d : Desk) → is_open k ≡ false → after_short k d ≡ of_store k d (store_reading d.store)
after_store (Call.Open b) d o = absurd (false_true o refl)
after_store Call.Step d o = refl
after_store Call.Show d o = refl
after_store (Call.Ask q) d o = refl

other_long : (k : Call) (d : Desk) → is_open k ≡ false → short d ≡ false → examined k d ≡ of_store k d (store_reading d.store)
unfolding examined
other_long k d o s = ap (λ (t : Bool). cond t (refused ShortDesk) (after_short k d)) s ∙ after_store k d o

pub is_spoiled : (k : Call) (d : Desk) → is_open k ≡ false → short d ≡ false → spoiled d ≡ true → examined k d ≡ refused SpoiledDesk
unfolding spoiled
is_spoiled k d o s p = other_long k d o s ∙ go (store_reading d.store) p
  where
    go : (x : CaseReading) → spoiled_as d x ≡ true → of_store k d x ≡ refused SpoiledDesk
    go (refused r) h = refl
    go (content c) h = rules (obeys_for c d) h
      where
        rules : (t : Bool) → not t ≡ true → cond t (after_rules c (first_refusal (call_conditions k) (view_of c d))) (refused SpoiledDesk) ≡ refused SpoiledDesk
        rules true h = absurd (false_true refl h)
        rules false h = refl

-- then it goes by the call's own conditions
pub in_store : (k : Call) (d : Desk) (c : Content) → is_open k ≡ false → Unspoiled d c → examined k d ≡ after_rules c (first_refusal (call_conditions k) (view_of c d))
in_store k d c o u = other_long k d o u.long ∙ ap (of_store k d) u.rules.reads ∙ ap (λ (t : Bool). cond t (after_rules c (first_refusal (call_conditions k) (view_of c d))) (refused SpoiledDesk)) (rules_in d c u.rules)

-- ---- 'Every input to which no numbered refusal of its call applies is accepted'

pub open_accepted : (b : List ℕ) (d : Desk) (c : Content) → examined (Call.Open b) d ≡ content c → OpenAccepted b d c
open_accepted b d c e = go (short d) refl
  where
    go : (t : Bool) → short d ≡ t → OpenAccepted b d c
    go true s = absurd (refused_content (sym (is_short (Call.Open b) d s) ∙ e))
    go false s = record { long = s; reads = sym (open_long b d s) ∙ e }

pub outcome : (k : Call) (d : Desk) → is_open k ≡ false → Outcome k d
outcome k d o = go (short d) refl
  where
    at-conditions : (c : Content) → Unspoiled d c → (x : Option Refusal) → first_refusal (call_conditions k) (view_of c d) ≡ x → Outcome k d
    at-conditions c u none i = inside c u i (in_store k d c o u ∙ ap (after_rules c) i)
    at-conditions c u (some r) i = outside c u r i (in_store k d c o u ∙ ap (after_rules c) i)

    rules : short d ≡ false → (t : Bool) → spoiled d ≡ t → Outcome k d
    rules s true p = broken s (λ c w. false_true ((spoiled_exactly d).1 (c, w)) p) (is_spoiled k d o s p)
    rules s false p = let w = (spoiled_exactly d).0 p in at-conditions w.0 (record { long = s; rules = w.1 }) (first_refusal (call_conditions k) (view_of w.0 d)) refl

    go : (t : Bool) → short d ≡ t → Outcome k d
    go true s = too_short_lem s (is_short k d s)
    go false s = rules s (spoiled d) refl

pub other_accepted : (k : Call) (d : Desk) (c : Content) → is_open k ≡ false → examined k d ≡ content c → OtherAccepted k d c
other_accepted k d c o e = go (outcome k d o)
  where
    go : Outcome k d → OtherAccepted k d c
    go (too_short_lem s p) = absurd (refused_content (sym p ∙ e))
    go (broken s n p) = absurd (refused_content (sym p ∙ e))
    go (outside x u r i p) = absurd (refused_content (sym p ∙ e))
    go (inside x u i p) = let q : x ≡ c = cc in rw (← q) (record { held = u; range = i })

-- accepted or refused, and never both
pub accepted_content : (k : Call) (d : Desk) → accepted k d ≡ true → (c : Content) × (examined k d ≡ content c)
unfolding accepted
accepted_content k d a = go (examined k d) refl a
  where
    go : (x : CaseReading) → examined k d ≡ x → is_content x ≡ true → (c : Content) × (examined k d ≡ content c)
    go (refused r) e h = absurd (false_true refl h)
    go (content c) e h = (c, e)

pub refused_refusal : (k : Call) (d : Desk) → accepted k d ≡ false → (r : Refusal) × (examined k d ≡ refused r)
unfolding accepted
refused_refusal k d a = go (examined k d) refl a
  where
    go : (x : CaseReading) → examined k d ≡ x → is_content x ≡ false → (r : Refusal) × (examined k d ≡ refused r)
    go (refused r) e h = (r, e)
    go (content c) e h = absurd (false_true h refl)

pub content_accepted : (k : Call) (d : Desk) (c : Content) → examined k d ≡ content c → accepted k d ≡ true
unfolding accepted
content_accepted k d c e = ap is_content e

pub unrefused_accepted : (q : Question) (d : Desk) (x : Reply) → asked q d ≡ x → ((r : Refusal) → number_reply r ≡ x → ⊥) → accepted (Call.Ask q) d ≡ true
unrefused_accepted q d x p never = not_failed _ (λ a. let r = refused_refusal (Call.Ask q) d a in never r.0 (sym (ap (λ y. y.reply) (perform_refused (Call.Ask q) d r.0 r.1)) ∙ p))

-- an accepted question that is answered from a view
pub answered_reply : {q : Question} {d : Desk} {v : View} → AnsweredFrom q d v → accepted (Call.Ask q) d ≡ true → asked q d ≡ (answer_to q v).reply
answered_reply n a = ap (λ x. x.reply) (n.answers (n.accepts.0 a))
