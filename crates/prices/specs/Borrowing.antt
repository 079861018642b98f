-- Whose price an hour takes, said without the search.
use Rattle.std.specs.Prelude.{◌≡◌, ℕ, ◌<◌, ◌≤◌, Bool, true, false, ◌⊎◌, List, ℤ, Option, MatchOption}
use Rattle.market.specs.Limits.{Price}
use Rattle.market.specs.declared.kinds.Side.{Side}
use Rattle.market.specs.declared.records.Line.{Line}
use Rattle.prices.specs.declared.kinds.HourPrice.{HourPrice}
use Rattle.prices.specs.declared.kinds.Market.{Market}
use Rattle.prices.specs.Hours.{sold, lender, unified_price, pair_at}

-- every hour from one on and before another is empty
abbrev pub Empty : (ℕ → Bool) → ℕ → ℕ → Type 0
Empty full from before = (hour : ℕ) → from ≤ hour → hour < before → full hour ≡ false

-- an hour that lends its price is not empty, and no hour between is: later hours come first, and an earlier one lends only where no later one does
abbrev pub Lends : (ℕ → Bool) → ℕ → ℕ → Type 0
Lends full hour from =
    (from < 24) × (full from ≡ true) × (((hour ≤ from) × Empty full hour from) ⊎ ((from < hour) × Empty full hour 24 × ((between : ℕ) → from < between → between < hour → full between ≡ false)))

-- what is right of the hour whose price is taken, if any: where there is none, all hours are empty
abbrev pub Borrows : (ℕ → Bool) → ℕ → Option ℕ → Type 0
Borrows full hour from = MatchOption from (Empty full 0 24) (Lends full hour)

-- what is right of an hour's price: it is the unified price, within the limits of a price, from the hour whose price is taken
pub record PricedBy (market : Market) (sides : List Side) (lines : List Line) (reference : ℤ) (hour : ℕ) (price : HourPrice) : Type 0 where
  pub value : price.mil ≡ unified_price market sides lines reference hour
  pub limits : Price price.mil
  pub lent : price.from ≡ lender (sold market sides lines) hour
  pub borrows : Borrows (sold market sides lines) hour price.from

-- both prices of an hour, the day-ahead one first
pub record PairedBy (sides : List Side) (lines : List Line) (reference : ℤ) (hour : ℕ) (pair : ℤ × ℤ) : Type 0 where
  pub value : pair ≡ pair_at sides lines reference hour
  pub ahead : Price pair.0
  pub real_time : Price pair.1
