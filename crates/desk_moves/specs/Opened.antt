-- What open does, from the check of its case and what it wrote. Rests on desk's Moved and RefusedLaws, casefile's Caller, theory's Written.
--   fresh_standing: the standing of a desk that is made anew
--   short_open, refused_open, accepted_open: an open of a desk that is too short, of a refused case, of an accepted one
--   room, filled: the tables have room for the entries; a table whose first n bytes were filled
--   fill_none, fill_more, fill_done: a loop that fills a table, where it begins, after one turn more, at its end
use Rattle.std.specs.Prelude.{ℕ, ◌+◌, ◌*◌, ◌≤◌, ◌<◌, ◌≡◌, true, false, List, [], length, set, replicate, take, drop, ◌++◌}
use Rattle.std.proofs.Common.{refl, sym, ap₂, ◌∙◌, zero-add, arith, length-take-le}
use Rattle.std.proofs.Math.Path.{ap}
use Rattle.std.proofs.lemmas.List.{length-replicate, replicate-append-replicate}
use Rattle.refusal.specs.declared.Refusal.{Refusal}
use Rattle.refusal.specs.declared.Refusal.TheVariants.{ShortDesk}
use Rattle.casefile.specs.declared.Sizes.{Sizes}
use Rattle.casefile.specs.Directory.{parts_of}
use Rattle.casefile.specs.Reading.{refused, case_reading}
use Rattle.casefile.specs.Gapless.{gapless}
use Rattle.casefile.proofs.Accepted.{accepted_case}
use Rattle.casefile.specs.Caller.{AcceptedCase}
use Rattle.theory.specs.Written.{written_none, written_byte}
use Rattle.theory.specs.Lists.{written}
use Rattle.desk.specs.Desk.{Desk, Standing, Call, Reply}
use Rattle.desk.specs.Refused.{short, number_reply}
use Rattle.desk.specs.Moved.{opened}
use Rattle.desk.specs.Perform.{After, answer, moved, lent_after}
use Rattle.desk.proofs.RefusedLaws.{is_short, open_long, perform_refused, perform_accepted}
use Rattle.desk.proofs.RulesLaws.{long-enough}
use Rattle.desk_check.specs.Answer.{Does}
use Rattle.desk_check.specs.Held.{case_few}

-- ---- filling a table

pub fill_none : (e : ℕ) (out : List ℕ) → out ≡ written 0 (replicate 0 e) out
fill_none e out = sym (written_none 0 out)

pub fill_more : (i e : ℕ) (out now : List ℕ) → now ≡ written 0 (replicate i e) out → i < length out → set now i e ≡ written 0 (replicate (i + 1) e) out
fill_more i e out now p l =
    let n = length-replicate i e in
    let z : 0 + length (replicate i e) ≡ i = omega (arith, n) in
    ap₂ (λ (o : List ℕ) (k : ℕ). set o k e) p (sym z)
    ∙ written_byte 0 (replicate i e) out e (omega arith)
    ∙ ap (λ (s : List ℕ). written 0 s out) (replicate-append-replicate i 1 e)

pub fill_done : (i n e : ℕ) (out now : List ℕ) → now ≡ written 0 (replicate i e) out → i ≤ n → n ≤ i → now ≡ written 0 (replicate n e) out
fill_done i n e out now p l m = let q : i ≡ n = omega arith in rw q at p

pub filled : (n e : ℕ) (s out : List ℕ) → n ≤ length out → s ≡ replicate (length (take n out)) e → (s ++ drop n out) ≡ written 0 (replicate n e) out
filled n e s out p q = rw (q, length-take-le n out p, length-replicate n e, zero-add) refl

-- the tables have room for the entries of an accepted case
pub room : (d : Desk) {b : List ℕ} {z : Sizes} {w : List ℕ} {n : ℕ} → short d ≡ false → AcceptedCase b z w → n ≡ z.states1 * z.states2 → (n ≤ length d.first) × (n ≤ length d.second)
room d s a e =
    let l = long-enough d s in
    let f = case_few a in
    (omega (arith, l.first_long), omega (arith, l.second_long))

-- ---- open

pub short_open : (b : List ℕ) (d : Desk) → short d ≡ true → Does (Call.Open b) d (number_reply ShortDesk) d
short_open b d s = perform_refused (Call.Open b) d ShortDesk (is_short (Call.Open b) d s)

pub refused_open : (b : List ℕ) (d : Desk) (f : Refusal) → short d ≡ false → case_reading b ≡ refused f → Does (Call.Open b) d (number_reply f) d
refused_open b d f s e = perform_refused (Call.Open b) d f (open_long b d s ∙ e)

abbrev pub fresh_standing : ℕ → ℕ → Standing
fresh_standing n1 n2 = record { states1 = n1; states2 = n2; round = 0; row = 0; changed = false; settled = false; second_whole = false; lowerings = 0 }

abbrev opened_to : Desk → After
opened_to e = record { reply = Reply.Opened; desk = e; lent = [] }

module _ (b : List ℕ) (d : Desk) (z : Sizes) (w : List ℕ) (s : short d ≡ false) (a : AcceptedCase b z w) where
  pub accepted_open : (n : ℕ) (store first second : List ℕ) → n ≡ z.states1 * z.states2 → store ≡ written 0 (gapless (parts_of b)) d.store → first ≡ written 0 (replicate n z.lattice.top.0) d.first → second ≡ written 0 (replicate n z.lattice.top.0) d.second → Does (Call.Open b) d Reply.Opened (record { standing = fresh_standing z.states1 z.states2; store = store; first = first; second = second })
  unfolding answer moved lent_after opened
  accepted_open n store first second m es e1 e2 =
      perform_accepted (Call.Open b) d a.holds (open_long b d s ∙ a.reads)
      ∙ ap opened_to (sym (rw (es, e1, e2, m, (accepted_case b a.holds a.reads).parts, a.sizes)))
