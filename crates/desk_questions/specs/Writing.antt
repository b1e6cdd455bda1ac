-- What write does on a desk that is held, from what the code found. Rests on desk_check's Held, casefile's Accepted and Gapless, desk's Case.
--   held_write, write_short: write answered, and refused with 14
use Rattle.std.specs.Prelude.{ℕ, ◌≤◌, ◌<◌, ◌≡◌, List, [], ◌∷◌, length, take}
use Rattle.std.proofs.Common.{ap, ◌∙◌, arith, le-leb}
use Rattle.std.proofs.lemmas.Bool.{lt-leb}
use Rattle.theory.specs.Lists.{written}
use Rattle.theory.specs.TestLaws.{cond_true, cond_false}
use Rattle.refusal.specs.declared.Refusal.TheVariants.{ShortBuffer}
use Rattle.casefile.specs.declared.Sizes.{Sizes}
use Rattle.casefile.specs.Gapless.{gapless, gapless_of}
use Rattle.casefile.proofs.Accepted.{accepted_case}
use Rattle.desk.specs.Desk.{Desk, Question, Call, Reply}
use Rattle.desk.specs.Case.{case_bytes}
use Rattle.desk.specs.Refused.{number_reply}
use Rattle.desk_check.specs.Answer.{DoesWith}
use Rattle.desk_check.specs.Held.{HeldDesk, held_question, held_outside}

module _ {d : Desk} {z : Sizes} {w : List ℕ} (h : HeldDesk d z w) where
  abbrev bytes : List ℕ
  bytes = take 24576 d.store

  -- the gapless case of the store's parts is that of the content
  case_is : gapless_of bytes ≡ case_bytes h.case.holds
  case_is = ap gapless (accepted_case bytes h.case.holds h.case.reads).parts

  pub held_write : (b : List ℕ) (n : ℕ) (out : List ℕ) → n ≡ length (gapless_of bytes) → n ≤ length b → out ≡ written 0 (gapless_of bytes) b → DoesWith (out ∷ []) (Call.Ask (Question.Write b)) d (Reply.Length n) d
  held_write b n out e l p =
      let m : n ≡ length (case_bytes h.case.holds) = e ∙ ap length case_is in
      let q : out ≡ written 0 (case_bytes h.case.holds) b = p ∙ ap (λ (x : List ℕ). written 0 x b) case_is in
      rw (m, q) (held_question h (Question.Write b) (cond_true _ _ _ (le-leb (length (case_bytes h.case.holds)) (length b) (omega (arith, m, l)))))

  pub write_short : (b : List ℕ) (n : ℕ) → n ≡ length (gapless_of bytes) → length b < n → DoesWith (b ∷ []) (Call.Ask (Question.Write b)) d (number_reply ShortBuffer) d
  write_short b n e l =
      let m : n ≡ length (case_bytes h.case.holds) = e ∙ ap length case_is in
      held_outside h (Question.Write b) ShortBuffer (cond_false _ _ _ (lt-leb (length (case_bytes h.case.holds)) (length b) (omega (arith, m, l))))
