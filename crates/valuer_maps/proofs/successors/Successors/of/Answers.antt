-- `valuer_maps::Successors::of` meets its contract: the row's part of the bytes.
use Rattle.std.proofs.Common.{ℕ, List, ◌≡◌, ◌≤◌, ◌+◌, ◌-◌, ◌*◌, length, take, drop, arith, sym, ◌∙◌, length-drop}
use Rattle.std.proofs.lemmas.List.{get_or-take, get_or-drop, length-take-le}
use Rattle.valuer_maps.specs.Successors.{row_few, row_first, row_of}
use Rattle.valuer_maps.proofs.successors.Successors.of.Goals as goal

-- the bytes from the place a on
rest_long : (k a : ℕ) (xs : List ℕ) → length xs ≡ k → a ≤ k → length (take (k - a) (drop a xs)) ≡ k - a
rest_long k a xs e b = length-take-le (k - a) (drop a xs) (omega (arith, length-drop a xs))

pub slice_bounds-result-end-2 : goal.slice_bounds-result-end-2
slice_bounds-result-end-2 c =
    let s = c.args.self.now in
    let r = row_of (s.listed.at c.args.q.0 c.requires) c.from-at.ensures in
    let e = s.model.shape.states_most in
    sym (length-take-le _ _ (omega (arith, c.from-count.ensures, c.from-at.ensures, row_few r, rest_long 4160 (c.from-at.result * 65 + 1) s.rows.now (omega arith) (omega (arith, c.from-at.ensures)))))

pub returns : goal.returns
returns c =
    let s = c.args.self.now in
    let r = row_of (s.listed.at c.args.q.0 c.requires) c.from-at.ensures in
    let e = s.model.shape.states_most in
    rw c.from-count.ensures
    (row_first _ r (omega (arith, row_few r, c.from-at.ensures, rest_long 4160 (c.from-at.result * 65 + 1) s.rows.now (omega arith) (omega (arith, c.from-at.ensures))))
    (λ i b. get_or-take _ _ i 0 (omega (arith, row_few r, c.from-at.ensures)) ∙ get_or-drop (c.from-at.result * 65 + 1) s.rows.now i 0))
