-- What is written into a text: room for bytes, and bytes that are put at its place. Rests on Writing and Decimal.
--   Room, Puts: the terms of the code's contracts; row_entries, row_line, table_rows: the entries and the line of a row, and the lines of a table
--   puts_then, room_then: two writings, one after the other; puts_few, puts_more, room_tenth, room_few, room_last: a number's digits
--   loop_start, loop_room, loop_turn, loop_done: a loop that writes f 0, f 1, ..
use Rattle.std.specs.Prelude.{ℕ, ◌+◌, ◌*◌, ◌/◌, ◌%◌, ◌≤◌, ◌<◌, ◌≡◌, refl, List, [], ◌∷◌, ◌++◌, length, get_or, take, drop}
use Rattle.std.proofs.Common.{ap, sym, ◌∙◌, arith, length-append, get_or-take, get_or-drop}
use Rattle.listing.specs.declared.writing.Text.{Text}
use Rattle.entries.specs.declared.table.Table.{Table}
use Rattle.entries.specs.Table.{table_of}
use Rattle.listing.specs.Text.{decimal, blank, item, each, entries_text, heading, row_label, line_end, row_text, rows_text}
use Rattle.listing.specs.Decimal.{decimal-few, decimal_more}
use Rattle.listing.specs.Writing.{Wrote, wrote_then, wrote_length, fits_then, each-starts, each-room, each_none, each_more, each_cong}

-- the bytes s fit into the text t at its place
abbrev pub Room : Text → List ℕ → Type 0
Room t s = t.at + length s ≤ length t.bytes.now

-- the bytes s fit into the text t at its place, and are written there: it became u
pub record Puts (t : Text) (s : List ℕ) (u : Text) : Type 0 where
  pub same_buffer : u.bytes.ghost_name ≡ t.bytes.ghost_name
  pub fits : Room t s
  pub wrote : Wrote t.bytes.now t.at s u.bytes.now u.at

module _ {t u : Text} {s : List ℕ} (p : Puts t s u) where
  pub puts-length : length u.bytes.now ≡ length t.bytes.now
  puts-length = wrote_length p.wrote p.fits

  pub puts_then : {v : Text} {r : List ℕ} → Puts u r v → Puts t (s ++ r) v
  puts_then {v} {r} q = record {
    same_buffer = q.same_buffer ∙ p.same_buffer;
    fits = omega (arith, q.fits, puts-length, p.wrote.next_is, length-append s r);
    wrote = wrote_then r (omega (arith, p.fits)) p.wrote q.wrote;
  }

-- where two fit, there is room for the second after the first
pub room_then : {t u : Text} {s : List ℕ} (r : List ℕ) → Room t (s ++ r) → Puts t s u → Room u r
room_then {t} {u} {s} r l p = fits_then r l p.wrote

-- ---- a number

-- the last digit
abbrev pub last : ℕ → List ℕ
last n = (48 + n % 10) ∷ []

few-is : (n : ℕ) → n < 10 → decimal n ≡ last n
few-is n l = let e : n % 10 ≡ n = omega arith in decimal-few n l ∙ ap (λ (k : ℕ). (48 + k) ∷ []) (sym e)

module _ (n : ℕ) where
  -- a number below 10 has its last digit alone
  pub room_few : (t : Text) → n < 10 → Room t (decimal n) → Room t (last n)
  room_few t l r = rw (few-is n l) at r

  pub puts_few : {t u : Text} → n < 10 → Puts t (last n) u → Puts t (decimal n) u
  puts_few l p = rw (few-is n l) p

  -- any other has those of its tenth, then the last
  pub room_tenth : (t : Text) → 10 ≤ n → Room t (decimal n) → Room t (decimal (n / 10))
  room_tenth t l r = omega (arith, r, ap length (decimal_more n l), length-append (decimal (n / 10)) (last n))

  pub room_last : {t u : Text} → 10 ≤ n → Room t (decimal n) → Puts t (decimal (n / 10)) u → Room u (last n)
  room_last {t} {u} l r p = omega (arith, r, ap length (decimal_more n l), length-append (decimal (n / 10)) (last n), puts-length p, p.wrote.next_is)

  pub puts_more : {t u v : Text} → 10 ≤ n → Puts t (decimal (n / 10)) u → Puts u (last n) v → Puts t (decimal n) v
  puts_more l p q = rw (decimal_more n l) (puts_then p q)

-- ---- a loop that writes f 0, f 1, .., with room for n of them

module _ (t : Text) (n : ℕ) (f : ℕ → List ℕ) (room : Room t (each n f)) where
  pub loop_start : Puts t (each 0 f) t
  loop_start = record { same_buffer = refl; fits = omega (arith, room, ap length (each_none f)); wrote = each-starts t.bytes.now t.at n f room }

  pub loop_room : (i : ℕ) {u : Text} → i < n → Puts t (each i f) u → Room u (f i)
  loop_room i {u} l p = each-room t.bytes.now t.at n f room i u.bytes.now u.at l p.wrote

pub loop_turn : {t u v : Text} (i : ℕ) (f : ℕ → List ℕ) → Puts t (each i f) u → Puts u (f i) v → Puts t (each (i + 1) f) v
loop_turn i f p q = rw (each_more i f) (puts_then p q)

pub loop_done : {t u : Text} (i n : ℕ) (f : ℕ → List ℕ) → i ≡ n → Puts t (each i f) u → Puts t (each n f) u
loop_done i n f e p = rw e at p

-- ---- a row

-- the entries of a row, a blank before each
abbrev pub row_entries : List ℕ → List ℕ
row_entries row = entries_text (λ q. get_or row q 0) (length row)

-- the line of row q₁
abbrev pub row_line : ℕ → List ℕ → List ℕ
row_line q₁ row = heading row_label q₁ ++ row_entries row ++ line_end

-- the lines of all rows of a table
abbrev pub table_rows : Table → List ℕ
table_rows t = let n₂ = get_or t.models.second.bytes.now 0 0 in rows_text (table_of t.bytes.now n₂) (get_or t.models.first.bytes.now 0 0) n₂

-- row q₁ of a table of n₂ entries a row, held by itself
pub row_is : (table : List ℕ) (n₂ q₁ : ℕ) (row : List ℕ) → row ≡ take n₂ (drop (q₁ * n₂) table) → length row ≡ n₂ → row_line q₁ row ≡ row_text (table_of table n₂) n₂ q₁
unfolding row_text
row_is table n₂ q₁ row e l =
    let entry : (q : ℕ) → q < n₂ → get_or row q 0 ≡ get_or table (q₁ * n₂ + q) 0 = λ q h. ap (λ (s : List ℕ). get_or s q 0) e ∙ get_or-take n₂ (drop (q₁ * n₂) table) q 0 h ∙ get_or-drop (q₁ * n₂) table q 0 in
    ap (λ (s : List ℕ). heading row_label q₁ ++ s ++ line_end)
    (ap (λ (n : ℕ). each n (λ q. item blank (get_or row q 0))) l ∙ each_cong n₂ _ _ (λ q h. ap (item blank) (entry q h)))
