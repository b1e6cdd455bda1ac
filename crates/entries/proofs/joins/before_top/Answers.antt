-- `entries::before_top` meets its contract: the join of the blocks before a block, which is not top.
use Rattle.std.proofs.Common.{◌≡◌, sym, ap, ◌∙◌, get_or, arith}
use Rattle.std.proofs.lemmas.Option.{none-some}
use Rattle.theory.specs.Loop.{reached}
use Rattle.entries.specs.Joins.{join_code, block_from, block_next, block_joined, join_none, join_gap}
use Rattle.entries.proofs.joins.before_top.Goals as goal

pub loop-start-init : goal.loop-start-init
loop-start-init c = (join_none c.args.r.now.row.now c.args.codes.now 0, λ e. c.requires.1 (sym e))

pub returns-then-y-r : goal.returns-then-y-r
returns-then-y-r c =
    let r = c.args.r.now in
    let u = c.loop-start in
    let t = c.args.r.now.listed in
    let i = u.start-index in
    let x = u.invariant.0 ∙ sym (join_gap r.row.now c.args.codes.now 0 (t.gap i (omega arith))) in
    record {
      not_top = u.invariant.1;
      found = λ k e.
          let q : get_or r.starts.now u.start-index 0 ≡ k = cc in
          rw (← q)
          (x, t.fits i (omega arith), sym (block_joined r.row.now c.args.codes.now _ _ (omega arith) (omega (arith, r.long, t.fits i (omega arith))) x c.join_met-y.ensures) ∙ c.if-y-r.true);
      none = λ e. absurd (none-some _ (sym e));
    }

pub loop-start-preserved : goal.loop-start-preserved
loop-start-preserved c =
    let r = c.args.r.now in
    let u = c.loop-start in
    let t = c.args.r.now.listed in
    let i = u.start-index in
    let x = u.invariant.0 ∙ sym (join_gap r.row.now c.args.codes.now 0 (t.gap i (omega arith))) in (
      block_joined r.row.now c.args.codes.now _ _ (omega arith) (omega (arith, r.long, t.fits i (omega arith))) x c.join_met-y.ensures
          ∙ ap (join_code r.row.now c.args.codes.now 0) (sym (block_next r.starts.now i)),
      c.if-y-r.false,
    )

pub returns : goal.returns
returns c =
    let r = c.args.r.now in
    let i = c.loop-start.invariant in
    record {
      not_top = i.1;
      found = λ k e. absurd (none-some k e);
      none = λ e. i.0 ∙ reached (λ n. join_code r.row.now c.args.codes.now 0 (block_from r.starts.now n)) (omega arith) (omega arith)
          ∙ sym (join_gap r.row.now c.args.codes.now 0 c.args.r.now.listed.last);
    }
