-- The panel lattice. Rests on theory's Part.
use Rattle.std.specs.Prelude.{ℕ, ◌-◌, ◌/◌, ◌%◌, Bool, ◌&&◌, leb}
use Rattle.theory.specs.Part.{LatticePart}

-- 'The order is that of all three places': each digit of i is at most that of j.
unfoldable pub panel_order : ℕ → ℕ → Bool
panel_order i j = leb (i / 9) (j / 9) && leb (i / 3 % 3) (j / 3 % 3) && leb (i % 3) (j % 3)

-- 'the panel lattice: 27 elements, number 9a + 3b + c, each of a, b, c being 0 (no), 1 (unsure) or 2 (yes). The order is that of all
-- three places, and not-e is 26 − e.'
abbrev pub panel_part : LatticePart
panel_part = record { size = 27; complement = λ e. 26 - e; order = panel_order }
