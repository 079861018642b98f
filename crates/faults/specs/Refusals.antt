-- The layer, the number and the place of each fault. Layer 1 is the file, 2 a record, 3 the month.
use Rattle.std.specs.Prelude.{ℕ}
use Rattle.faults.specs.declared.answer.Refusal.{Refusal}
use Rattle.faults.specs.declared.causes.Section.{Section}
use Rattle.faults.specs.declared.causes.Section.TheVariants.{Quantities, NodePrices, Contracts}
use Rattle.faults.specs.declared.causes.FileFault.{FileFault}
use Rattle.faults.specs.declared.causes.FileFault.TheVariants.{TooShort, WrongByte, OutOfOrder, WrongLength}
use Rattle.faults.specs.declared.causes.RecordFault.{RecordFault}
use Rattle.faults.specs.declared.causes.RecordFault.TheVariants as records
use Rattle.faults.specs.declared.causes.MonthFault.{MonthFault}
use Rattle.faults.specs.declared.causes.MonthFault.TheVariants as months

abbrev pub refused : ℕ → ℕ → ℕ → Refusal
refused layer number place = record { layer = layer; number = number; place = place }

-- the header's pairs are counted from 1
abbrev pub pair_of : Section → ℕ
pair_of Quantities = 1
pair_of NodePrices = 2
pair_of Contracts = 3

abbrev pub file_refusal : FileFault → Refusal
file_refusal (TooShort length) = refused 1 11 length
file_refusal (WrongByte offset) = refused 1 12 offset
file_refusal (OutOfOrder section) = refused 1 13 (pair_of section)
file_refusal (WrongLength section) = refused 1 14 (pair_of section)

-- a file's fault keeps its layer, number and place; a wrong party count stands in byte 5
abbrev pub record_refusal : RecordFault → Refusal
record_refusal (records.File fault) = file_refusal fault
record_refusal records.PartyCount = refused 2 15 5
record_refusal (records.BeyondLimits offset) = refused 2 16 offset
record_refusal (records.BuyerPrice offset) = refused 2 17 offset
record_refusal (records.Contract offset) = refused 2 18 offset

-- a record's fault keeps its layer, number and place
abbrev pub month_refusal : MonthFault → Refusal
month_refusal months.DayCount = refused 3 2 1
month_refusal months.PartyCount = refused 3 2 2
month_refusal months.ReferencePrice = refused 3 2 3
month_refusal (months.Letter index) = refused 3 3 index
month_refusal (months.Record fault) = record_refusal fault
