-- `valuer_maps::same` meets its contract: slices that are equal have equal words, and the other way round.
use Rattle.std.proofs.Common.{◌≡◌, ℕ, ◌<◌, ◌≤◌, eqb, length, get_or, take, arith, ap, sym, ◌∙◌, List, eq-eqb, eqb-true}
use Rattle.std.proofs.Math.Bool.{Bool}
use Rattle.std.proofs.lemmas.List.{get_or-take, ext_get_or, length-take-le}
use Rattle.std.proofs.lemmas.Bool.Decides.{Decides-eqb}
use Rattle.std.proofs.lemmas.Slice.Eq.{slice_eq-Decides}
use Rattle.std.specs.Cmp.Lexicographic.{pointwise}
use Rattle.theory.specs.Test.{all_below}
use Rattle.theory.specs.TestLaws.{bool_same, all_at, all_in}
use Rattle.valuer_maps.proofs.same.Goals as goal

first_same : (n : ℕ) (xs ys : List ℕ) (r : Bool) → n ≤ length xs → n ≤ length ys → r ≡ pointwise eqb (take n xs) (take n ys)
    → r ≡ all_below n (λ q. eqb (get_or xs q 0) (get_or ys q 0))
first_same n xs ys r k l e =
    let d = slice_eq-Decides Decides-eqb (take n xs) (take n ys) r e in
    bool_same _ _
    (λ t. all_in n _ (λ q b. eq-eqb _ _ (sym (get_or-take n xs q 0 b) ∙ ap (λ (s : List ℕ). get_or s q 0) (d.0 t) ∙ get_or-take n ys q 0 b)))
    (λ t. d.1
    (ext_get_or 0 (take n xs) (take n ys) (length-take-le n xs k ∙ sym (length-take-le n ys l))
    (λ q b. let j : q < n = omega (arith, length-take-le n xs k) in get_or-take n xs q 0 j ∙ eqb-true _ _ (all_at n _ t q j) ∙ sym (get_or-take n ys q 0 j))))

pub returns : goal.returns
returns c = first_same c.args.n c.args.x.now c.args.y.now c.eq.result (omega arith) (omega arith) c.eq.ensures
