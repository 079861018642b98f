-- The limits of energy and prices, and the reading that is kept.
use Rattle.std.specs.Prelude.{ℕ, Bool, cond, ◌||◌, ℤ, pos, neg_ℤ, ◌≤ℤ◌, int_lt}
use Rattle.market.specs.declared.kinds.Side.{Side}
use Rattle.market.specs.declared.kinds.Side.TheVariants.{Seller, Buyer}
use Rattle.market.specs.declared.records.Line.{Line}

-- kWh of a party in an hour, and of a contract
abbrev pub most_kwh : ℕ
most_kwh = 4000000

-- thousandths of a yuan per MWh
abbrev pub most_price : ℕ
most_price = 5000000

-- below the lower limit or above the upper one
abbrev pub outside : ℤ → ℤ → ℤ → Bool
outside low high z = int_lt z low || int_lt high z

abbrev pub Between : ℤ → ℤ → ℤ → Type 0
Between low high z = (low ≤ℤ z) × (z ≤ℤ high)

abbrev pub beyond_day_ahead : ℤ → Bool
beyond_day_ahead = outside (pos 0) (pos most_kwh)

abbrev pub least_metered : Side → ℤ
least_metered Seller = neg_ℤ (pos most_kwh)
least_metered Buyer = pos 0

abbrev pub beyond_metered : Side → ℤ → Bool
beyond_metered side = outside (least_metered side) (pos most_kwh)

abbrev pub beyond_price : ℤ → Bool
beyond_price = outside (neg_ℤ (pos most_price)) (pos most_price)

-- a seller's negative reading is kept as 0
abbrev pub kept_of : Side → ℤ → ℤ
kept_of Seller kwh = cond (int_lt kwh (pos 0)) (pos 0) kwh
kept_of Buyer kwh = kwh

-- energy of a party-hour, the reading as it is kept, and of a contract
abbrev pub Energy : ℤ → Type 0
Energy kwh = Between (pos 0) (pos most_kwh) kwh

abbrev pub Price : ℤ → Type 0
Price mil = Between (neg_ℤ (pos most_price)) (pos most_price) mil

-- a line whose numbers are within their limits
pub record LineWithin (line : Line) : Type 0 where
  pub ahead : Energy line.day_ahead
  pub metered : Energy line.metered
  pub ahead_price : Price line.day_ahead_price
  pub real_time_price : Price line.real_time_price
