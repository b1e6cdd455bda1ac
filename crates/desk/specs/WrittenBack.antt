-- Request 105: what write leaves in its buffer, on every desk, and what opening that gives. Rests on Demand3, Demand1Holds, RefusedLaws, RulesLaws, casefile's Accepted and Same.
-- Here stand the definitions; the theorems are in proofs/WrittenBack.
--   WrittenCase, written_case: the bytes of the buffer after an answered write
use Rattle.std.specs.Prelude.{ℕ, ◌≤◌, List, length, take, drop}
use Rattle.std.proofs.Math.Path.{◌≡◌}
use Rattle.casefile.specs.Reading.{Content, content, store_reading}
use Rattle.desk.specs.Desk.{Desk}
use Rattle.desk.specs.Case.{case_bytes}

-- the bytes of the buffer after an answered write: 'bytes past it are kept', and those before are the case
pub record WrittenCase (d : Desk) (b : List ℕ) (n : ℕ) (w : List ℕ) : Type 0 where
  pub holds : Content
  pub reads : store_reading d.store ≡ content holds
  pub length_is : n ≡ length (case_bytes holds)
  pub most : n ≤ 16618
  pub rest : drop n w ≡ drop n b
  pub front : take n w ≡ case_bytes holds
