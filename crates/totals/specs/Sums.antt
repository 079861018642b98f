-- Sums over the lines of a day's file. They wrap at 64 bits.
use Rattle.std.specs.Prelude.{ℕ, zero, suc, ◌<◌, List, length, ℤ, pos, ◌+ℤ◌, Some, None, Option, ◌≢◌, slice_index_or}
use Rattle.std.specs.Int.{int_wrap, w64}
use Rattle.market.specs.declared.kinds.Side.{Side}
use Rattle.market.specs.declared.kinds.Side.TheVariants.{Seller, Buyer}
use Rattle.dayfile.specs.declared.file.DayFile.{DayFile}
use Rattle.market.specs.declared.records.Line.{Line}
use Rattle.dayfile.specs.Records.{line_of}
use Rattle.totals.specs.declared.energy.Energy.{Energy}

-- the numbers of the hours 1 to n, added up
unfoldable pub up_to : (ℕ → ℤ) → ℕ → ℤ
up_to number zero = pos 0
up_to number (suc n) = int_wrap w64 (up_to number n +ℤ number (suc n))

-- two energies added up
abbrev pub plus : Energy → Energy → Energy
plus a b = record { day_ahead = int_wrap w64 (a.day_ahead +ℤ b.day_ahead); metered = int_wrap w64 (a.metered +ℤ b.metered) }

-- the energy on a line; none where there is no line
abbrev pub on_line : Option Line → Energy
on_line None = record { day_ahead = pos 0; metered = pos 0 }
on_line (Some line) = record { day_ahead = line.day_ahead; metered = line.metered }

-- a party's energy in an hour
abbrev pub energy_in : DayFile → ℕ → Side → ℕ → Energy
energy_in day party side hour = on_line (line_of day.bytes.now day.parties day.layout party side hour)

-- a party's energy over the 24 hours
abbrev pub energy_of : DayFile → ℕ → Side → Energy
energy_of day party side =
    record {
      day_ahead = up_to (λ hour. (energy_in day party side hour).day_ahead) 24;
      metered = up_to (λ hour. (energy_in day party side hour).metered) 24;
    }

-- a seller's reading in an hour; a buyer sells nothing
abbrev pub sold : DayFile → ℕ → Side → ℕ → ℤ
sold day party Seller hour = (energy_in day party Seller hour).metered
sold day party Buyer hour = pos 0

-- some party sold something in the hour
abbrev pub Ran : DayFile → List Side → ℕ → Type 0
Ran day sides hour = (party : ℕ) × (party < length sides) × (sold day party (slice_index_or sides party Seller) hour ≢ pos 0)
