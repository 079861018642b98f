-- What each fault says in words.
use Rattle.std.specs.Prelude.{ℕ, List, ◌++◌, codes}
use Rattle.faults.specs.declared.causes.Section.{Section}
use Rattle.faults.specs.declared.causes.Section.TheVariants.{Quantities, NodePrices, Contracts}
use Rattle.faults.specs.declared.causes.FileFault.{FileFault}
use Rattle.faults.specs.declared.causes.FileFault.TheVariants.{TooShort, WrongByte, OutOfOrder, WrongLength}
use Rattle.faults.specs.declared.causes.RecordFault.{RecordFault}
use Rattle.faults.specs.declared.causes.RecordFault.TheVariants as records
use Rattle.faults.specs.declared.causes.MonthFault.{MonthFault}
use Rattle.faults.specs.declared.causes.MonthFault.TheVariants as months

abbrev pub section_words : Section → List ℕ
section_words Quantities = codes "quantities"
section_words NodePrices = codes "node prices"
section_words Contracts = codes "contracts"

-- a fault of one section names it
abbrev pub file_words : FileFault → List ℕ
file_words (TooShort length) = codes "shorter than the header of 32 bytes"
file_words (WrongByte offset) = codes "a wrong byte in the header"
file_words (OutOfOrder section) = codes "the " ++ (section_words section ++ codes " start too early or end past the file")
file_words (WrongLength section) = codes "the " ++ (section_words section ++ codes " have a wrong length")

-- a file's fault keeps its words
abbrev pub record_words : RecordFault → List ℕ
record_words (records.File fault) = file_words fault
record_words records.PartyCount = codes "the file has another number of parties"
record_words (records.BeyondLimits offset) = codes "a quantity or a seller's price beyond its limits"
record_words (records.BuyerPrice offset) = codes "a buyer's price that is not 0"
record_words (records.Contract offset) = codes "a contract that breaks a rule"

-- a record's fault keeps its words
abbrev pub month_words : MonthFault → List ℕ
month_words months.DayCount = codes "not 28 to 31 days"
month_words months.PartyCount = codes "not 1 to 64 parties"
month_words months.ReferencePrice = codes "the reference price beyond its limits"
month_words (months.Letter index) = codes "a letter that is neither S nor B"
month_words (months.Record fault) = record_words fault
