-- The structural check of a day's file: the rows of refusals 11 to 15, in the order in which they count.
use Rattle.std.specs.Prelude.{ℕ, ◌*◌, ◌%◌, Bool, not, ◌||◌, List, [], ◌∷◌, ◌++◌, length, ◌==◌, nat_lt}
use Rattle.faults.specs.declared.causes.Section.{Section}
use Rattle.faults.specs.declared.causes.Section.TheVariants.{Quantities, NodePrices, Contracts}
use Rattle.faults.specs.declared.causes.FileFault.{FileFault}
use Rattle.faults.specs.declared.causes.FileFault.TheVariants.{TooShort, WrongByte, OutOfOrder, WrongLength}
use Rattle.faults.specs.declared.causes.RecordFault.{RecordFault}
use Rattle.faults.specs.declared.causes.RecordFault.TheVariants.{File, PartyCount}
use Rattle.faults.specs.Rows.{renamed}
use Rattle.dayfile.specs.Bytes.{byte_at}
use Rattle.dayfile.specs.Layouts.{start_of, length_of, end_of}

-- 12: the byte at an offset of the header is not the one wanted there
abbrev pub byte_row : List ℕ → ℕ → ℕ → List (FileFault × Bool)
byte_row file at wanted = (WrongByte at, not (byte_at file at == wanted)) ∷ []

-- 11: the file is shorter than its header of 32 bytes. 12: bytes 0 to 3 are the letters DAY1, byte 6 is 3, byte 7 is 0
abbrev pub header_rows : List ℕ → List (FileFault × Bool)
header_rows file =
    (TooShort (length file), nat_lt (length file) 32)
    ∷ byte_row file 0 68 ++ byte_row file 1 65 ++ byte_row file 2 89 ++ byte_row file 3 49 ++ byte_row file 6 3 ++ byte_row file 7 0

-- the first section starts after the header, each later one where the one before ends or further on
abbrev pub earliest : List ℕ → Section → ℕ
earliest file Quantities = 32
earliest file NodePrices = end_of file Quantities
earliest file Contracts = end_of file NodePrices

-- 13: a section starts too early or ends past the file
abbrev pub order_row : List ℕ → Section → List (FileFault × Bool)
order_row file section = (OutOfOrder section, nat_lt (start_of file section) (earliest file section) || nat_lt (length file) (end_of file section)) ∷ []

-- a party has 24 hours of two numbers of four bytes in each of the first two sections; a contract has 12 bytes, and there are at most 256
abbrev pub misfits : ℕ → ℕ → Section → Bool
misfits parties bytes Quantities = not (bytes == 192 * parties)
misfits parties bytes NodePrices = not (bytes == 192 * parties)
misfits parties bytes Contracts = not (bytes % 12 == 0) || nat_lt 3072 bytes

-- 14: a section's length is wrong for the party count in byte 5, as it stands
abbrev pub length_row : List ℕ → Section → List (FileFault × Bool)
length_row file section = (WrongLength section, misfits (byte_at file 5) (length_of file section) section) ∷ []

abbrev pub section_rows : List ℕ → List (FileFault × Bool)
section_rows file =
    order_row file Quantities ++ order_row file NodePrices ++ order_row file Contracts
    ++ length_row file Quantities ++ length_row file NodePrices ++ length_row file Contracts

-- 15: the party count in byte 5 is not the number of parties
abbrev pub count_row : List ℕ → ℕ → List (RecordFault × Bool)
count_row file parties = (PartyCount, not (byte_at file 5 == parties)) ∷ []

-- a file's fault is wrapped as a record's
unfoldable pub structure_rows : List ℕ → ℕ → List (RecordFault × Bool)
structure_rows file parties = renamed File (header_rows file ++ section_rows file) ++ count_row file parties
