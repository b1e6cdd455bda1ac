-- 'Table bytes past N1·N2 and store bytes past 24,576 are never written', and no buffer changes its length. Rests on RefusedLaws, Moved,
-- theory's Written.
-- The definitions are in specs/Unwritten.
--   never_written: an accepted call leaves it so, on every desk; unaltered: so does one that alters nothing
use Rattle.std.specs.Prelude.{ℕ, ◌+◌, ◌*◌, ◌≤◌, ◌<◌, ◌≡◌, refl, Bool, true, false, cond, List, length, take, replicate}
use Rattle.std.proofs.Common.{sym, ap, subst, arith}
use Rattle.std.proofs.lemmas.List.{length-replicate}
use Rattle.theory.specs.Loop.{tab-length}
use Rattle.theory.specs.Lists.{tab}
use Rattle.theory.specs.Written.{written-length, written_after}
use Rattle.theory.specs.Lists.{written}
use Rattle.casefile.specs.Reading.{Content, content}
use Rattle.casefile.proofs.Accepted.{gapless_most}
use Rattle.casefile.proofs.Content.{content_sound}
use Rattle.model.specs.Places.{row_le}
use Rattle.desk.specs.Desk.{Desk, Call, other_table}
use Rattle.desk.specs.Case.{ops, N1, N2, table_size, operator, case_bytes}
use Rattle.desk.specs.View.{shown_table}
use Rattle.desk.specs.Refused.{examined}
use Rattle.desk.specs.Moved.{opened, topped, row_worked, worked, stepped}
use Rattle.desk.specs.Perform.{perform, moved}
use Rattle.desk.specs.RefusedLaws.{OpenAccepted}
use Rattle.desk.proofs.RefusedLaws.{perform_accepted, open_accepted, other_accepted}
use Rattle.desk.proofs.RulesLaws.{long-enough}
use Rattle.desk.specs.Unwritten.{SameFrom, Unwritten}

same : {n : ℕ} {b : List ℕ} → SameFrom n b b
same = record { same_length = refl; same_bytes = λ i l. refl }

pub unaltered : {n : ℕ} {d : Desk} → Unwritten n d d
unaltered = record { store_same = same; first_same = same; second_same = same }

-- ---- open

-- bytes that are written before place n
written_same : (at : ℕ) (s out : List ℕ) (n : ℕ) → at + length s ≤ length out → at + length s ≤ n → SameFrom n (written at s out) out
written_same at s out n p q = record { same_length = written-length at s out p; same_bytes = λ i l. written_after at s out p i (omega arith) }

topped_same : (c : Content) (t : List ℕ) → table_size c ≤ length t → SameFrom (table_size c) (topped c t) t
topped_same c t h =
    let n = length-replicate (table_size c) (ops c).top in
    written_same 0 (replicate (table_size c) (ops c).top) t (table_size c) (omega (arith, n)) (omega (arith, n))

opened_same : (b : List ℕ) (c : Content) (d : Desk) → OpenAccepted b d c → Unwritten (table_size c) (opened c d) d
unfolding opened
opened_same b c d a =
    let l = long-enough d a.long in
    let most = gapless_most b c a.reads in
    let few = (content_sound b c a.reads).entries_most in
    record {
      store_same = written_same 0 (case_bytes c) d.store 24576 (omega (arith, most, l.store_long)) (omega (arith, most));
      first_same = topped_same c d.first (omega (arith, few, l.first_long));
      second_same = topped_same c d.second (omega (arith, few, l.second_long));
    }

-- ---- step

row_same_lem : (c : Content) (d : Desk) → d.standing.row < N1 c → table_size c ≤ length (other_table d) → SameFrom (table_size c) (row_worked c d) (other_table d)
row_same_lem c d l h =
    let n = tab-length (operator c (shown_table c d) d.standing.row) (N2 c) 0 in
    let m = row_le d.standing.row (N1 c) (N2 c) l in
    written_same (d.standing.row * N2 c) (tab (operator c (shown_table c d) d.standing.row) (N2 c) 0) (other_table d) (table_size c) (omega (arith, n, m)) (omega (arith, n, m))

-- the written table is the first where the second is whole, and the second where it is not
first_same_by : {n : ℕ} (w : Bool) (f g o : List ℕ) → SameFrom n o (cond w f g) → SameFrom n (cond w o f) f
first_same_by true f g o h = h
first_same_by false f g o h = same

second_same_by : {n : ℕ} (w : Bool) (f g o : List ℕ) → SameFrom n o (cond w f g) → SameFrom n (cond w g o) g
second_same_by true f g o h = same
second_same_by false f g o h = h

other_room : (w : Bool) (f g : List ℕ) (n : ℕ) → n ≤ length f → n ≤ length g → n ≤ length (cond w f g)
other_room true f g n p q = p
other_room false f g n p q = q

stepped_same : (c : Content) (d : Desk) → d.standing.row < N1 c → table_size c ≤ length d.first → table_size c ≤ length d.second → Unwritten (table_size c) (stepped c d) d
unfolding stepped worked
stepped_same c d l p q = go d.standing.settled
  where
    go : (t : Bool) → Unwritten (table_size c) (cond t d (worked c d)) d
    go true = unaltered
    go false =
        record {
          store_same = same;
          first_same = first_same_by d.standing.second_whole d.first d.second (row_worked c d) (row_same_lem c d l (other_room d.standing.second_whole d.first d.second (table_size c) p q));
          second_same = second_same_by d.standing.second_whole d.first d.second (row_worked c d) (row_same_lem c d l (other_room d.standing.second_whole d.first d.second (table_size c) p q));
        }

-- ==== every call on every desk: c is the content that it works on

moved_same : (k : Call) (c : Content) (d : Desk) → examined k d ≡ content c → Unwritten (table_size c) (moved k c d) d
unfolding moved
moved_same (Call.Open b) c d e = opened_same b c d (open_accepted b d c e)
moved_same Call.Step c d e =
    let h = (other_accepted Call.Step d c refl e).held in
    let few = (content_sound (take 24576 d.store) c h.rules.reads).entries_most in
    let l = long-enough d h.long in
    stepped_same c d h.rules.row_below (omega (arith, few, l.first_long)) (omega (arith, few, l.second_long))
moved_same Call.Show c d e = unaltered
moved_same (Call.Ask q) c d e = unaltered

pub never_written : (k : Call) (c : Content) (d : Desk) → examined k d ≡ content c → Unwritten (table_size c) (perform k d).desk d
never_written k c d e = subst (λ (x : Desk). Unwritten (table_size c) x d) (sym (ap (λ x. x.desk) (perform_accepted k d c e))) (moved_same k c d e)
