-- What the exports' numbers tell, and how they follow from what the calls do. Rests on Numbers, desk_moves's and desk_questions's Answer, desk's RefusedLaws, casefile's Content and desk_check's Answer.
--   is_shown, reply_of: whether a reply is show's; the reply that numbers tell
--   numbers-back: the numbers lose nothing of a reply that is not show's
--   refused_zero, accepted_some: what show's export names on a refused desk, and on any other
--   by_case, done_in_numbers: for the exports of the other calls, from the call's answer and from what it does
--   empty_named, whole_named: for show's export, from the length of what show answered
--   refused_sized, held-sized, with sizes_in_numbers: for the export of a desk's sizes, from what the examination answered
use Rattle.std.specs.Prelude.{ℕ, ◌≤◌, ◌<◌, ◌≡◌, refl, Bool, true, false, cond, List, [], eqb, length, take, Ok, Err}
use Rattle.std.proofs.Common.{sym, ap, ◌∙◌, arith, length-take-le}
use Rattle.refusal.specs.declared.Refusal.{Refusal}
use Rattle.casefile.specs.declared.Sizes.{Sizes}
use Rattle.casefile.specs.Answer.{sizes_of}
use Rattle.desk_check.specs.Answer.{examined_answer, Does, DoesWith}
use Rattle.casefile.specs.Reading.{Content, CaseReading, refused, content}
use Rattle.casefile.specs.Content.{ContentSound}
use Rattle.casefile.proofs.Content.{content_sound}
use Rattle.desk.specs.Desk.{Desk, Call, Reply, whole_table}
use Rattle.desk.specs.Case.{table_size}
use Rattle.desk.specs.Refused.{examined, accepted}
use Rattle.desk.specs.Perform.{After, answer, moved, lent_after}
use Rattle.desk.specs.RefusedLaws.{Unspoiled}
use Rattle.desk.proofs.RefusedLaws.{perform_refused, perform_accepted, other_accepted, accepted_content, refused_refusal}
use Rattle.desk.proofs.RulesLaws.{long-enough}
use Rattle.exports.specs.declared.Answer.{Answer}
use Rattle.exports.specs.declared.Shown.{Shown}
use Rattle.exports.specs.declared.DeskSizes.{DeskSizes}
use Rattle.exports.specs.Numbers.{numbers, DoneInNumbersWith, named, ShownInNumbers, sized}

-- ---- the numbers lose nothing of a reply

abbrev pub is_shown : Reply → Bool
is_shown (Reply.Refused n p) = false
is_shown Reply.Opened = false
is_shown (Reply.Row n) = false
is_shown (Reply.Round r n) = false
is_shown (Reply.Settled t n) = false
is_shown (Reply.Shown b) = true
is_shown (Reply.Element e) = false
is_shown (Reply.FormulaValue e x) = false
is_shown (Reply.PerCent p) = false
is_shown (Reply.Says b) = false
is_shown (Reply.Length n) = false

-- the reply of kind k, for the kinds 1 to 7, 9 and 10; any other is a refusal
abbrev pub reply_of : Answer → Reply
reply_of a =
    cond (eqb a.kind 1) Reply.Opened
    (cond (eqb a.kind 2) (Reply.Row a.second)
    (cond (eqb a.kind 3) (Reply.Round a.value a.second)
    (cond (eqb a.kind 4) (Reply.Settled a.value a.second)
    (cond (eqb a.kind 5) (Reply.Element a.value)
    (cond (eqb a.kind 6) (Reply.PerCent a.value)
    (cond (eqb a.kind 7) (Reply.Says (eqb a.value 1))
    (cond (eqb a.kind 9) (Reply.FormulaValue a.value (record { nesting = a.byte; fixpoint = a.flag1; ex = a.flag2 }))
    (cond (eqb a.kind 10) (Reply.Length a.value) (Reply.Refused a.number a.part)))))))))

pub numbers-back : (x : Reply) → is_shown x ≡ false → reply_of (numbers x) ≡ x
numbers-back (Reply.Refused n p) e = refl
numbers-back Reply.Opened e = refl
numbers-back (Reply.Row n) e = refl
numbers-back (Reply.Round r n) e = refl
numbers-back (Reply.Settled t n) e = refl
numbers-back (Reply.Shown b) e = absurd (let z : ◌≡◌ {A = ℕ} 0 1 = cc in omega arith)
numbers-back (Reply.Element x) e = refl
numbers-back (Reply.FormulaValue x y) e = refl
numbers-back (Reply.PerCent p) e = refl
numbers-back (Reply.Length n) e = refl
numbers-back (Reply.Says b) e = go b
  where
    go : (y : Bool) → reply_of (numbers (Reply.Says y)) ≡ Reply.Says y
    go true = refl
    go false = refl

-- ---- what a call does, in numbers

-- an answer that is matched: a is the case b
pub by_case : {A : Type 0} (reply : A → Reply) (a b : A) (x : Answer) → a ≡ b → x ≡ numbers (reply b) → x ≡ numbers (reply a)
by_case {A} reply a b x e p = p ∙ ap (λ (y : A). numbers (reply y)) (sym e)

pub done_in_numbers : {lent : List (List ℕ)} (k : Call) (d : Desk) (x : Reply) (e : Desk) (a : Answer) → DoesWith lent k d x e → a ≡ numbers x → DoneInNumbersWith lent k d a e
done_in_numbers k d x e a p q =
    record { answer = q ∙ sym (ap (λ (r : After). numbers r.reply) p); after = sym (ap (λ (r : After). r.desk) p); leaves = sym (ap (λ (r : After). r.lent) p) }

-- ---- show

abbrev show : Call
show = Call.Show

shown_same : (b b' : List ℕ) (d : Desk) → Does show d (Reply.Shown b) d → Does show d (Reply.Shown b') d → b ≡ b'
shown_same b b' d p q = let r : Reply.Shown b ≡ Reply.Shown b' = sym (ap (λ (r : After). r.reply) p) ∙ ap (λ (r : After). r.reply) q in cc

-- the whole table holds N1·N2 bytes, at least one
module _ (d : Desk) (c : Content) (e : examined show d ≡ content c) where
  held : Unspoiled d c
  held = (other_accepted show d c refl e).held

  sound : ContentSound c
  sound = content_sound (take 24576 d.store) c held.rules.reads

  some : 0 < table_size c
  some = sound.entries_some

  fits : table_size c ≤ length (whole_table d)
  fits = go d.standing.second_whole
    where
      go : (b : Bool) → table_size c ≤ length (cond b d.second d.first)
      go true = omega (arith, sound.entries_most, (long-enough d held.long).second_long)
      go false = omega (arith, sound.entries_most, (long-enough d held.long).first_long)

  whole_shown : Does show d (Reply.Shown (take (table_size c) (whole_table d))) d
  unfolding answer moved lent_after
  whole_shown = perform_accepted show d c e

-- the length of what show answered says whether it was refused
pub empty_named : (d : Desk) (b : List ℕ) → Does show d (Reply.Shown b) d → length b ≡ 0 → ShownInNumbers d (record { table = 0; length = 0 })
empty_named d b p z = go (examined show d) refl
  where
    go : (x : CaseReading) → examined show d ≡ x → ShownInNumbers d (record { table = 0; length = 0 })
    go (refused r) e = record { names = rw e; bytes = perform_refused show d r e }
    go (content c) e = absurd (omega (arith, z, some d c e, ap length (shown_same b (take (table_size c) (whole_table d)) d p (whole_shown d c e)), length-take-le (table_size c) (whole_table d) (fits d c e)))

pub whole_named : (d : Desk) (b : List ℕ) (t n : ℕ) → Does show d (Reply.Shown b) d → n ≡ length b → 0 < n → t ≡ cond d.standing.second_whole 2 1 → ShownInNumbers d (record { table = t; length = n })
whole_named d b t n p l s w = go (examined show d) refl
  where
    pick : (y : Bool) → cond (eqb (cond y 2 1) 2) d.second d.first ≡ cond y d.second d.first
    pick true = refl
    pick false = refl

    go : (x : CaseReading) → examined show d ≡ x → ShownInNumbers d (record { table = t; length = n })
    go (refused r) e = absurd (omega (arith, l, s, ap length (shown_same b [] d p (perform_refused show d r e))))
    go (content c) e =
        let q : n ≡ table_size c = omega (arith, l, ap length (shown_same b (take (table_size c) (whole_table d)) d p (whole_shown d c e)), length-take-le (table_size c) (whole_table d) (fits d c e)) in
        record { names = rw (e, q, w); bytes = rw (q, w, pick d.standing.second_whole) (whole_shown d c e) }

-- table 0 and length 0 are named on a refused desk, and neither on any other
pub refused_zero : (d : Desk) (x : Shown) → ShownInNumbers d x → accepted show d ≡ false → x ≡ record { table = 0; length = 0 }
refused_zero d x n f = let r = refused_refusal show d f in n.names ∙ ap (named d) r.1

pub accepted_some : (d : Desk) (x : Shown) → ShownInNumbers d x → accepted show d ≡ true → (0 < x.table) × (0 < x.length)
accepted_some d x n t =
    let r = accepted_content show d t in
    let e : x ≡ named d (content r.0) = n.names ∙ ap (named d) r.1 in
    (omega (arith, ap (λ (y : Shown). y.table) e, above d.standing.second_whole), omega (arith, ap (λ (y : Shown). y.length) e, some d r.0 r.1))
  where
    above : (b : Bool) → 0 < cond b 2 1
    above true = omega arith
    above false = omega arith

-- ---- what a desk holds

pub refused_sized : (d : Desk) (f : Refusal) → Err f ≡ examined_answer (examined show d) → sized (refused f) ≡ sized (examined show d)
refused_sized d f e = go (examined show d) e
  where
    go : (x : CaseReading) → Err f ≡ examined_answer x → sized (refused f) ≡ sized x
    go (refused r) e = let q : f ≡ r = cc in rw q
    go (content c) e = absurd (let z : ◌≡◌ {A = ℕ} 0 1 = cc in omega arith)

abbrev pub sizes_in_numbers : Sizes → DeskSizes
sizes_in_numbers z =
    record {
      number = 0;
      part = 0;
      elements = z.lattice.size;
      propositions = z.propositions;
      states1 = z.states1;
      states2 = z.states2;
      formulas = z.formulas;
    }

pub held-sized : (d : Desk) (z : Sizes) → Ok z ≡ examined_answer (examined show d) → sizes_in_numbers z ≡ sized (examined show d)
held-sized d z e = go (examined show d) e
  where
    go : (x : CaseReading) → Ok z ≡ examined_answer x → sizes_in_numbers z ≡ sized x
    go (refused r) e = absurd (let z : ◌≡◌ {A = ℕ} 0 1 = cc in omega arith)
    go (content c) e = let q : z ≡ sizes_of c = cc in rw q
