-- Request 105: what write leaves in its buffer, on every desk, and what opening that gives. Rests on Demand3, Demand1Holds, RefusedLaws, RulesLaws, casefile's Accepted and Same.
-- The definitions are in specs/WrittenBack.
--   written_exactly: when write is answered, and how; short_buffer_exactly: when 14 is given; write_refusals: no other refusals but 11 and 12
--   written_opens: opening what was written gives the same reading, at round 0 with both tables top
--   written_same_exactly: what two desks write is the same exactly when their stores are read alike; written_same-case_exactly: when these say the same
use Rattle.std.specs.Prelude.{ℕ, ◌+◌, ◌≤◌, ◌<◌, false, ◌↔◌, ◌⊎◌, List, [], ◌∷◌, length, take, drop, replicate}
use Rattle.std.proofs.Math.Path.{◌≡◌, refl, sym, ap}
use Rattle.std.proofs.Common.{◌∙◌, inl, inr, ⊎_elim, append-nil, zero-add, take_at, drop_at}
use native.Mathlib.Omega.{arith, not-le}
use Rattle.std.proofs.lemmas.List.{length-replicate}
use Rattle.theory.specs.Lists.{written}
use Rattle.refusal.specs.declared.Refusal.{Refusal}
use Rattle.refusal.specs.declared.Refusal.TheVariants.{ShortDesk, SpoiledDesk, ShortBuffer}
use Rattle.refusal.specs.First.{refusal_unique}
use Rattle.casefile.specs.Reading.{Content, CaseReading, refused, content, case_reading, store_reading}
use Rattle.casefile.specs.Conditions.{SameCase}
use Rattle.casefile.proofs.Same.{same_content_exactly}
use Rattle.casefile.proofs.Accepted.{gapless_most, gapless_reads, store_reads}
use Rattle.desk.specs.Desk.{Desk, Question, Call, Reply}
use Rattle.desk.specs.Case.{ops, table_size, case_bytes}
use Rattle.desk.specs.View.{view_of}
use Rattle.desk.specs.Refused.{short, Rules, conditions, FirstBroken, after_rules, examined, number_reply}
use Rattle.desk.specs.Moved.{opened, topped}
use Rattle.desk.specs.Perform.{perform, answer, moved, lent_after}
use Rattle.desk.proofs.RefusedLaws.{perform_refused, perform_accepted, open_long, in_store, other_accepted, accepted_content, unrefused_accepted}
use Rattle.desk.proofs.RulesLaws.{range_exactly, broken_exactly}
use Rattle.desk.proofs.Demand1Holds.{demand1}
use Rattle.desk.specs.Demand3.{WritesBack, OpenedAnew}
use Rattle.desk.specs.WrittenBack.{WrittenCase}

-- bytes at the front of a buffer, and after them
front_is : (x b : List ℕ) (n : ℕ) → n ≡ length x → take n (written 0 x b) ≡ x
front_is x b n e = take_at x (drop (0 + length x) b) n (sym e)

rest_is : (x b : List ℕ) (n : ℕ) → n ≡ length x → drop n (written 0 x b) ≡ drop n b
rest_is x b n e = drop_at x (drop (0 + length x) b) n (sym e) ∙ ap (λ (k : ℕ). drop k b) (zero-add (length x) ∙ sym e)

same_held : {c e : Content} → content c ≡ content e → c ≡ e
same_held p = cc

same_number : {a b x y : ℕ} → Reply.Refused a x ≡ Reply.Refused b y → (a ≡ b) × (x ≡ y)
same_number p = (cc, cc)

same_length : {n m : ℕ} → Reply.Length n ≡ Reply.Length m → n ≡ m
same_length p = cc

same_buffer : {w y : List ℕ} → w ∷ [] ≡ y ∷ [] → w ≡ y
same_buffer p = cc

-- ---- what is written

module _ (d : Desk) (b : List ℕ) where
  abbrev call : Call
  call = Call.Ask (Question.Write b)

  -- on every desk: write is answered exactly when neither 11 nor 12 applies and the buffer holds the case of what the store holds; then it answers the
  -- length of the case and leaves it at the front of the buffer
  pub written_exactly : (n : ℕ) (w : List ℕ)
      → WritesBack d b n w ↔ ((short d ≡ false) × ((c : Content) × Rules d c × (length (case_bytes c) ≤ length b) × (n ≡ length (case_bytes c)) × (w ≡ written 0 (case_bytes c) b)))
  unfolding answer moved lent_after
  written_exactly n w = (there, λ e. back e.0 e.1.0 e.1.1 e.1.2 e.1.3 e.1.4)
    where
      never : (r : Refusal) → number_reply r ≡ Reply.Length n → ⊥
      never r h = let z : ◌≡◌ {A = ℕ} 0 1 = cc in omega arith

      there : WritesBack d b n w → (short d ≡ false) × ((c : Content) × Rules d c × (length (case_bytes c) ≤ length b) × (n ≡ length (case_bytes c)) × (w ≡ written 0 (case_bytes c) b))
      there x =
          let a = accepted_content call d (unrefused_accepted (Question.Write b) d (Reply.Length n) (ap (λ y. y.reply) x) never) in
          let c = a.0 in
          let u = other_accepted call d c refl a.1 in
          let p = perform_accepted call d c a.1 in (
            u.held.long,
            (
              c,
              u.held.rules,
              ((range_exactly (Question.Write b) (view_of c d)).0 u.range).0,
              same_length (sym (ap (λ y. y.reply) x) ∙ ap (λ y. y.reply) p),
              same_buffer (sym (ap (λ y. y.lent) x) ∙ ap (λ y. y.lent) p),
            ),
          )

      back : short d ≡ false → (c : Content) → Rules d c → length (case_bytes c) ≤ length b → n ≡ length (case_bytes c) → w ≡ written 0 (case_bytes c) b → WritesBack d b n w
      back s c r l m k =
          let i = in_store call d c refl (record { long = s; rules = r }) ∙ ap (after_rules c) ((range_exactly (Question.Write b) (view_of c d)).1 (l, tt)) in
          rw (m, k) (perform_accepted call d c i)

  -- 'refused with 14, after 12, when the buffer is too short': exactly when neither 11 nor 12 applies and the buffer is shorter than the case
  pub short_buffer_exactly : (perform call d ≡ record { reply = number_reply ShortBuffer; desk = d; lent = b ∷ [] }) ↔ ((short d ≡ false) × ((c : Content) × Rules d c × (length b < length (case_bytes c))))
  unfolding answer
  short_buffer_exactly = (λ x. there (given (examined call d) refl (ap (λ y. y.reply) x)), λ w. perform_refused call d ShortBuffer (back w.0 w.1.0 w.1.1 w.1.2))
    where
      given : (y : CaseReading) → examined call d ≡ y → (perform call d).reply ≡ number_reply ShortBuffer → y ≡ refused ShortBuffer
      given (refused r) e p =
          let q = sym (ap (λ y. y.reply) (perform_refused call d r e)) ∙ p in
          ap refused (refusal_unique r ShortBuffer (same_number q).0 (same_number q).1)
      given (content c) e p = let q = sym (ap (λ y. y.reply) (perform_accepted call d c e)) ∙ p in absurd (let z : ◌≡◌ {A = ℕ} 0 1 = cc in omega arith)

      too_short_lem : (c : Content) → FirstBroken ShortBuffer (conditions (Question.Write b)) (view_of c d) → length b < length (case_bytes c)
      too_short_lem c h = ⊎_elim (λ p. not-le _ _ p.0) (λ p. absurd p.1) h

      there : examined call d ≡ refused ShortBuffer → (short d ≡ false) × ((c : Content) × Rules d c × (length b < length (case_bytes c)))
      there e =
          let w = ((demand1 call d).after_12 refl ShortBuffer (omega arith)).0 e in
          let c = w.1.0 in
          (w.0, (c, w.1.1, too_short_lem c ((broken_exactly (view_of c d) ShortBuffer (conditions (Question.Write b))).0 w.1.2)))

      back : short d ≡ false → (c : Content) → Rules d c → length b < length (case_bytes c) → examined call d ≡ refused ShortBuffer
      back s c r l =
          ((demand1 call d).after_12 refl ShortBuffer (omega arith)).1
          (s, (c, r, (broken_exactly (view_of c d) ShortBuffer (conditions (Question.Write b))).1 (inl (λ h. omega (arith, h, l), refl))))

  -- and it is refused with nothing but 11, 12 and 14
  pub write_refusals : (r : Refusal) → examined call d ≡ refused r → (r ≡ ShortDesk) ⊎ ((r ≡ SpoiledDesk) ⊎ (r ≡ ShortBuffer))
  write_refusals r e = ⊎_elim inl (λ p. inr (⊎_elim inl (λ q. inr (⊎_elim (λ z. z) (λ z. absurd z) q)) p)) ((demand1 call d).only refl r e)

pub written_case : (d : Desk) (b : List ℕ) (n : ℕ) (w : List ℕ) → WritesBack d b n w → WrittenCase d b n w
written_case d b n w x =
    let e = ((written_exactly d b n w).0 x).1 in
    let c = e.0 in
    let m : n ≡ length (case_bytes c) = e.3 in
    record {
      holds = c;
      reads = e.1.reads;
      length_is = m;
      most = omega (arith, m, gapless_most (take 24576 d.store) c e.1.reads);
      rest = ap (drop n) e.4 ∙ rest_is (case_bytes c) b n m;
      front = ap (take n) e.4 ∙ front_is (case_bytes c) b n m;
    }

-- ---- opening what was written

topped_front : (c : Content) (t : List ℕ) → take (table_size c) (topped c t) ≡ replicate (table_size c) (ops c).top
topped_front c t = front_is (replicate (table_size c) (ops c).top) t (table_size c) (sym (length-replicate (table_size c) (ops c).top))

module _ (d : Desk) (c : Content) (reads : store_reading d.store ≡ content c) where
  -- the case that a desk holds is read as what it holds
  pub case_reads : case_reading (case_bytes c) ≡ content c
  case_reads =
      let m : length (case_bytes c) ≤ 32768 = omega (arith, gapless_most (take 24576 d.store) c reads) in
      let e = append-nil (case_bytes c) in
      sym (ap case_reading e) ∙ gapless_reads (take 24576 d.store) c reads [] (rw e m)

  case_opens : (e : Desk) → short e ≡ false → ((perform (Call.Open (case_bytes c)) e).reply ≡ Reply.Opened) × OpenedAnew d (perform (Call.Open (case_bytes c)) e).desk c
  unfolding answer moved opened
  case_opens e l =
      let p = perform_accepted (Call.Open (case_bytes c)) e c (open_long (case_bytes c) e l ∙ case_reads) in (
        ap (λ y. y.reply) p,
        rw p (record {
          same_reading = store_reads (take 24576 d.store) c reads _ ∙ sym reads;
          stands-fresh = refl;
          first_top = topped_front c e.first;
          second_top = topped_front c e.second;
        }),
      )

  pub written_opens : (b w : List ℕ) (n : ℕ) → WritesBack d b n w → (e : Desk) → short e ≡ false
      → ((perform (Call.Open (take n w)) e).reply ≡ Reply.Opened) × OpenedAnew d (perform (Call.Open (take n w)) e).desk c
  written_opens b w n x e l =
      let k = written_case d b n w x in
      let q : k.holds ≡ c = same_held (sym k.reads ∙ reads) in
      rw (k.front ∙ ap case_bytes q) (case_opens e l)

-- ---- two desks

-- 'Two desks with the same reading, the form of the lattice included, give the same bytes', and no others do
module _ (d e : Desk) (b f w y : List ℕ) (n m : ℕ) (p : WritesBack d b n w) (q : WritesBack e f m y) where
  pub written_same_exactly : (take n w ≡ take m y) ↔ (store_reading d.store ≡ store_reading e.store)
  written_same_exactly =
      let k = written_case d b n w p in
      let h = written_case e f m y q in (
        λ s. k.reads ∙ sym (case_reads d k.holds k.reads) ∙ ap case_reading (sym k.front ∙ s ∙ h.front) ∙ case_reads e h.holds h.reads ∙ sym h.reads,
        λ s. k.front ∙ ap case_bytes (same_held (sym k.reads ∙ s ∙ h.reads)) ∙ sym h.front,
      )

  -- the same by what is read: lattice and its form, models, formulas
  pub written_same-case_exactly : (c g : Content) → store_reading d.store ≡ content c → store_reading e.store ≡ content g → (take n w ≡ take m y) ↔ SameCase c g
  written_same-case_exactly c g k h =
      let s = same_content_exactly _ _ c g k h in (
        λ t. s.1 (same_held (sym k ∙ written_same_exactly.0 t ∙ h)),
        λ t. written_same_exactly.1 (k ∙ ap content (s.0 t) ∙ sym h),
      )
