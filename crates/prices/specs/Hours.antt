-- The unified prices of a day's hours. Lines stand party by party, 24 hours each; hours are counted from 0 here.
use Rattle.std.specs.Prelude.{◌≡◌, ℕ, zero, suc, ◌+◌, ◌-◌, ◌*◌, ◌<◌, ◌≤◌, Bool, cond, ◌||◌, List, length, ℤ, pos, ◌*ℤ◌, Some, None, Option, int_lt, slice_index_or, unsigned_abs}
use Rattle.std.specs.Option.{option_or}
use Rattle.market.specs.Limits.{LineWithin, Price, beyond_day_ahead, beyond_price}
use Rattle.market.specs.declared.kinds.Side.{Side}
use Rattle.market.specs.declared.kinds.Side.TheVariants.{Seller, Buyer}
use Rattle.market.specs.declared.records.Line.{Line}
use Rattle.money.specs.Rounding.{rounded}
use Rattle.money.specs.Sums.{summed}
use Rattle.prices.specs.declared.kinds.Market.{Market}
use Rattle.prices.specs.declared.kinds.Market.TheVariants.{DayAhead, RealTime}

abbrev pub no_line : Line
no_line = record { day_ahead = pos 0; metered = pos 0; day_ahead_price = pos 0; real_time_price = pos 0 }

-- the line of a party's hour
abbrev pub line_at : List Line → ℕ → ℕ → Line
line_at lines party hour = slice_index_or lines (24 * party + hour) no_line

abbrev pub side_at : List Side → ℕ → Side
side_at sides party = slice_index_or sides party Seller

-- a number of the line is outside its limits
abbrev pub beyond_line : Line → Bool
beyond_line line = beyond_day_ahead line.day_ahead || beyond_day_ahead line.metered || beyond_price line.day_ahead_price || beyond_price line.real_time_price

-- the lines of a day: of at most 64 parties, 24 hours each, all within their limits
pub record DayLines (sides : List Side) (lines : List Line) : Type 0 where
  pub few : length sides ≤ 64
  pub whole : length lines ≡ 24 * length sides
  pub each : (i : ℕ) → i < length lines → LineWithin (slice_index_or lines i no_line)

-- what prices are asked of: the lines of a day, and a reference price
pub record PriceDay (sides : List Side) (day : List Line) (mil : ℤ) : Type 0 where
  pub lines : DayLines sides day
  pub reference : Price mil

-- the two prices go by these quantities and node prices
abbrev pub energy_of : Market → Line → ℤ
energy_of DayAhead line = line.day_ahead
energy_of RealTime line = line.metered

abbrev pub node_price_of : Market → Line → ℤ
node_price_of DayAhead line = line.day_ahead_price
node_price_of RealTime line = line.real_time_price

-- which parties form the unified price: the sellers
abbrev pub forming : Side → ℤ → ℤ
forming Seller amount = amount
forming Buyer amount = pos 0

-- the energy that forms an hour's price, and what it is worth at the sellers' nodes
abbrev pub energy_in : Market → List Side → List Line → ℕ → ℤ
energy_in market sides lines hour = summed (λ party. forming (side_at sides party) (energy_of market (line_at lines party hour))) (length sides)

abbrev pub worth_in : Market → List Side → List Line → ℕ → ℤ
worth_in market sides lines hour =
    summed (λ party. forming (side_at sides party) (energy_of market (line_at lines party hour) *ℤ node_price_of market (line_at lines party hour))) (length sides)

-- the price of an hour that is not empty
abbrev pub price_in : Market → List Side → List Line → ℕ → ℤ
price_in market sides lines hour = rounded (worth_in market sides lines hour) (unsigned_abs (energy_in market sides lines hour))

-- the hour is not empty; energy is never below 0
abbrev pub sold : Market → List Side → List Line → ℕ → Bool
sold market sides lines hour = int_lt (pos 0) (energy_in market sides lines hour)

-- the first of the n hours from an hour on that is not empty
unfoldable pub first_from : (ℕ → Bool) → ℕ → ℕ → Option ℕ
first_from full hour zero = None
first_from full hour (suc n) = cond (full hour) (Some hour) (first_from full (hour + 1) n)

-- the last hour before an hour that is not empty
unfoldable pub last_before : (ℕ → Bool) → ℕ → Option ℕ
last_before full zero = None
last_before full (suc hour) = cond (full hour) (Some hour) (last_before full hour)

-- whose price an hour takes: its own or that of the first later hour, failing that of the nearest earlier one
abbrev pub lender : (ℕ → Bool) → ℕ → Option ℕ
lender full hour = option_or (first_from full hour (24 - hour)) (last_before full hour)

abbrev pub price_or : (ℕ → ℤ) → ℤ → Option ℕ → ℤ
price_or price reference None = reference
price_or price reference (Some hour) = price hour

-- the unified price of an hour, its own, borrowed, or the reference price
abbrev pub unified_price : Market → List Side → List Line → ℤ → ℕ → ℤ
unified_price market sides lines reference hour = price_or (price_in market sides lines) reference (lender (sold market sides lines) hour)

-- both, the day-ahead one first
abbrev pub pair_at : List Side → List Line → ℤ → ℕ → ℤ × ℤ
pair_at sides lines reference hour = (unified_price DayAhead sides lines reference hour, unified_price RealTime sides lines reference hour)
