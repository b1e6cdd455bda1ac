-- The table 'What a refused call gives' of document 01: the number and the part of each refusal; then document 02's, 'a new refusal gives part 255'. Rests on nothing.
use Rattle.std.specs.Prelude.{ℕ}
use Rattle.refusal.specs.declared.Refusal.{Refusal}
use Rattle.refusal.specs.declared.Refusal.TheVariants.{ShortDesk, CaseSize, Directory, PartPlace, LatticeForm, NoPartialOrder, NoMeetOrJoin, NotDistributive, BadComplement, BadModel, BadFormula, SpoiledDesk, OutOfRange, ShortBuffer}

abbrev pub number_of : Refusal → ℕ
number_of ShortDesk = 11
number_of CaseSize = 1
number_of Directory = 2
number_of (PartPlace p) = 3
number_of LatticeForm = 4
number_of NoPartialOrder = 5
number_of NoMeetOrJoin = 6
number_of NotDistributive = 7
number_of BadComplement = 8
number_of (BadModel p) = 9
number_of (BadFormula p) = 10
number_of SpoiledDesk = 12
number_of OutOfRange = 13
number_of ShortBuffer = 14

abbrev pub part_of : Refusal → ℕ
part_of ShortDesk = 255
part_of CaseSize = 255
part_of Directory = 255
part_of (PartPlace p) = p
part_of LatticeForm = 0
part_of NoPartialOrder = 0
part_of NoMeetOrJoin = 0
part_of NotDistributive = 0
part_of BadComplement = 0
part_of (BadModel p) = p
part_of (BadFormula p) = p
part_of SpoiledDesk = 255
part_of OutOfRange = 255
part_of ShortBuffer = 255
