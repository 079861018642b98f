-- The order in which refusals count within one check.
use Rattle.std.specs.Prelude.{◌≡◌, ℕ, ◌<◌, min, ◌⊎◌}
use Rattle.faults.specs.declared.answer.Refusal.{Refusal}
use Rattle.faults.specs.declared.causes.RecordFault.{RecordFault}
use Rattle.faults.specs.declared.causes.MonthFault.{MonthFault}
use Rattle.faults.specs.Refusals.{record_refusal, month_refusal}

-- by number, but for 16 to 18, the faults of records, which count alike
abbrev pub rank : Refusal → ℕ
rank refusal = min refusal.number 16

-- the lower rank comes first, and of one rank the lower place
abbrev pub Earlier : Refusal → Refusal → Type 0
Earlier a b = (rank a < rank b) ⊎ ((rank a ≡ rank b) × (a.place < b.place))

abbrev pub RecordEarlier : RecordFault → RecordFault → Type 0
RecordEarlier f g = Earlier (record_refusal f) (record_refusal g)

abbrev pub MonthEarlier : MonthFault → MonthFault → Type 0
MonthEarlier f g = Earlier (month_refusal f) (month_refusal g)
