-- The invariant of demand 3, 'this desk is what the content c gives after s accepted steps', and that an accepted opening starts it.
-- Rests on Case, Refused, Moved, RulesLaws, rounds' Round, theory's Lowerings, casefile's Accepted and Content.
-- The definitions are in specs/Stands.
use Rattle.std.specs.Prelude.{ℕ, ◌+◌, ◌≤◌, ◌<◌, ◌≡◌, refl, false, List, get_or, replicate}
use Rattle.std.proofs.Math.Path.{sym}
use Rattle.std.proofs.Common.{◌∙◌, arith}
use Rattle.std.proofs.Math.Logic.{inl}
use Rattle.std.proofs.Math.Dec.{eqb}
use Rattle.std.proofs.Math.ListN.{length, drop}
use Rattle.std.proofs.lemmas.List.{length-replicate, get_or-replicate}
use Rattle.theory.specs.Lattice.{Element}
use Rattle.theory.specs.Lowerings.{lowerings-none}
use Rattle.theory.specs.Written.{written-length, written_at}
use Rattle.casefile.specs.Reading.{Content}
use Rattle.casefile.proofs.Accepted.{gapless_most}
use Rattle.casefile.specs.Content.{ContentSound}
use Rattle.casefile.proofs.Content.{content_sound}
use Rattle.rounds.specs.Round.{round_none, top_round}
use Rattle.desk.specs.Desk.{Desk}
use Rattle.desk.specs.Case.{ops, model1, model2, N1, N2, table_size, operator, round_in, case_bytes}
use Rattle.desk.specs.Refused.{short}
use Rattle.desk.proofs.RulesLaws.{long-enough}
use Rattle.desk.specs.Moved.{opened, topped, stored}
use Rattle.desk.specs.Stands.{Known, Stands}

-- ---- the invariant

pub known-sound : {c : Content} {T : ℕ} → Known c T → ContentSound c
known-sound {c} k = content_sound k.case c k.reads

-- ---- for an accepted content

module _ {c : Content} {T : ℕ} (known : Known c T) where
  pub sizes_most : table_size c ≤ 4096
  sizes_most = (known-sound known).entries_most

  pub some_states : 0 < N1 c
  some_states = (known-sound known).shape1.some

  -- ---- an accepted opening starts it

  abbrev tops : List ℕ
  tops = replicate (table_size c) (ops c).top

  tops_fit : (t : List ℕ) → 4096 ≤ length t → 0 + length tops ≤ length t
  tops_fit t h = omega (arith, sizes_most, length-replicate (table_size c) (ops c).top)

  topped_at : (t : List ℕ) → 4096 ≤ length t → (i : ℕ) → i < table_size c → get_or (topped c t) i 0 ≡ (ops c).top
  topped_at t h i l =
      let z : 0 + i ≡ i = omega arith in
      rw z at (written_at 0 tops t (tops_fit t h) i (omega (arith, length-replicate (table_size c) (ops c).top))) ∙ get_or-replicate (table_size c) i (ops c).top 0 l

  topped-long : (t : List ℕ) → 4096 ≤ length t → 4096 ≤ length (topped c t)
  topped-long t h = rw (written-length 0 tops t (tops_fit t h)) h

  topped_elements : (t : List ℕ) → 4096 ≤ length t → (i : ℕ) → i < table_size c → Element (ops c) (get_or (topped c t) i 0)
  topped_elements t h i l = rw (topped_at t h i l) (known-sound known).laws.top-element

  stored-long : (s : List ℕ) → 24576 ≤ length s → 24576 ≤ length (stored c s)
  stored-long s h = rw (written-length 0 (case_bytes c) s (omega (arith, gapless_most known.case c known.reads))) h

  pub opening_starts : (d : Desk) → short d ≡ false → Stands c T 0 (opened c d)
  unfolding opened
  opening_starts d n =
      let w = long-enough d n in
      record {
        known = known;
        rest = drop (0 + length (case_bytes c)) d.store;
        store_is = refl;
        store_long = stored-long d.store w.store_long;
        sizes = (refl, refl);
        progress = record {
          whole_long = topped-long d.first w.first_long;
          other_long = topped-long d.second w.second_long;
          whole_elements = topped_elements d.first w.first_long;
          other_elements = topped_elements d.second w.second_long;
          shown = top_round (ops c) (model1 c) (model2 c) (operator c) (topped c d.first) (topped_at d.first w.first_long);
          lowerings_are = sym (lowerings-none eqb (N1 c) (N2 c) (round_in c));
          place = inl (record { unsettled = refl; below = known.is_T.above0; row_below = some_states; count = omega arith; before = topped c d.second; so_far = round_none });
        };
      }
