-- `entries::work_entry` meets its contract: the transitions of model 2, then the meet.
use Rattle.std.proofs.Common.{rules, ◌≡◌, ◌∙◌, ap, eq-eqb, length, arith, length-take-le, get_or}
use Rattle.theory.specs.TestLaws.{false_true}
use Rattle.entries.specs.Prepared.{row_gap, row_within_lem, entry_met, prepared_front}
use Rattle.entries.specs.Joins.{words_join, listed_front}
use Rattle.entries.specs.Codes.{propositions_within}
use Rattle.entries.specs.Words.{low_at}
use Rattle.elements.specs.Words.{code_in}
use Rattle.entries.proofs.work_entry.Goals as goal

pub list_blocks-blocks-requires : goal.list_blocks-blocks-requires
list_blocks-blocks-requires c = rw c.states-n2.ensures (row_gap _ _ c.transition_codes.ensures c.args.r.now.table.models.second.shape.states_most)

pub invariant_of-leaving : goal.invariant_of-leaving
invariant_of-leaving c =
    let r = c.args.r.now in
    let m = r.table.models.second.shape.states_most in
    let e = c.transition_codes.ensures in
    let b = c.list_blocks-blocks in
    let n : length c.transition_codes.new.out ≡ 64 = search rules in
    record {
      long = n;
      within = rw c.code-top.ensures (row_within_lem r.algebra.coded r.table.models.second.bytes.now c.args.q2.0 _ e m);
      gap = rw c.states-n2.ensures (row_gap _ _ e m);
      few = omega (arith, length-take-le b.result b.new.starts (omega (arith, b.ensures.0)), b.ensures.0);
      listed = listed_front b.result b.ensures.1 (omega (arith, b.ensures.0));
      may_end = record { no = λ t e. false_true t (eq-eqb _ _ (c.join_words.ensures ∙ ap (words_join c.transition_codes.new.out 0) n ∙ e)) };
    }

pub meet-m-requires : goal.meet-m-requires
meet-m-requires c =
    let r = c.args.r.now in
    let h = r.table.models.first.shape.states_most in
    let n = length-take-le c.states-n1.result r.left.now (omega (arith, c.states-n1.ensures, r.to_each)) ∙ c.states-n1.ensures in (
      rw (c.from.ensures, c.code-top.ensures, r.prepared.alike_are.at c.args.q2.0 c.requires)
          (propositions_within r.algebra.codes.now.words (code_in r.algebra.codes.now.words r.algebra.lattice.top.0) r.table.models.first.bytes.now r.table.models.second.bytes.now r.q1.0 c.args.q2.0),
      omega (arith, n),
      omega (arith, n, r.prepared.room),
    )

pub returns : goal.returns
returns c =
    let r = c.args.r.now in
    let u = rw (c.from.ensures, c.code-top.ensures, c.states-n2.ensures, c.states-n1.ensures, length-take-le (get_or r.table.models.first.bytes.now 0 0) r.left.now r.to_each) at c.meet-m.ensures in
    rw c.decode.ensures (entry_met r.algebra.coded (prepared_front r.prepared) c.args.q2.0 c.requires _ (low_at _ _ _ c.transition_codes.ensures r.table.models.second.shape.states_most) u)
