-- The scheduler's check as a table: the rows of the kind letters, then those of the file for parties of the sides that the letters name.
use Rattle.std.specs.Prelude.{ℕ, Bool, List, ◌++◌, Some, None, Option}
use Rattle.faults.specs.declared.causes.MonthFault.{MonthFault}
use Rattle.faults.specs.declared.causes.MonthFault.TheVariants.{Record}
use Rattle.faults.specs.Refusals.{month_refusal}
use Rattle.faults.specs.Rows.{renamed}
use Rattle.market.specs.Letters.{letter_rows, sides_named}
use Rattle.dayfile.specs.Records.{file_rows}

-- a record's fault is wrapped as a month's
unfoldable pub day_rows : List ℕ → List ℕ → List (MonthFault × Bool)
day_rows file letters = letter_rows letters ++ renamed Record (file_rows file (sides_named letters))

-- the number of a refusal, and 0 for none
abbrev pub number_of : Option MonthFault → ℕ
number_of None = 0
number_of (Some fault) = (month_refusal fault).number
