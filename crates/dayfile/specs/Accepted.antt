-- What holds of every file that is accepted for parties of these sides.
use Rattle.std.specs.Prelude.{◌≡◌, ℕ, ◌+◌, ◌-◌, ◌*◌, ◌<◌, ◌≤◌, List, length, ℤ, pos, neg_ℤ, slice_index_or}
use Rattle.faults.specs.declared.causes.Section.TheVariants.{Contracts}
use Rattle.market.specs.declared.kinds.Side.{Side}
use Rattle.market.specs.declared.kinds.Side.TheVariants.{Seller, Buyer}
use Rattle.market.specs.Limits.{most_kwh, most_price}
pub use Rattle.market.specs.Limits.{Between}
use Rattle.dayfile.specs.declared.parts.Layout.{Layout}
use Rattle.market.specs.declared.records.Line.{Line}
use Rattle.market.specs.declared.records.Contract.{Contract}
use Rattle.dayfile.specs.Records.{item_at, line_in, contract_in}

abbrev pub RightPrice : Side → ℤ → Type 0
RightPrice Seller mil = Between (neg_ℤ (pos most_price)) (pos most_price) mil
RightPrice Buyer mil = Between (pos 0) (pos 0) mil

-- a line's numbers, the reading as it is kept
pub record RightLine (side : Side) (line : Line) : Type 0 where
  pub ahead : Between (pos 0) (pos most_kwh) line.day_ahead
  pub metered : Between (pos 0) (pos most_kwh) line.metered
  pub ahead_price : RightPrice side line.day_ahead_price
  pub real_time_price : RightPrice side line.real_time_price

-- a contract joins a party that sells and one that buys
pub record RightContract (sides : List Side) (contract : Contract) : Type 0 where
  pub seller : (contract.seller < length sides) × (slice_index_or sides contract.seller Seller ≡ Seller)
  pub buyer : (contract.buyer < length sides) × (slice_index_or sides contract.buyer Seller ≡ Buyer)
  pub hour : (1 ≤ contract.hour) × (contract.hour ≤ 24)
  pub kwh : Between (pos 1) (pos most_kwh) contract.kwh
  pub price : Between (neg_ℤ (pos most_price)) (pos most_price) contract.price

pub record Accepted (file : List ℕ) (layout : Layout) (sides : List Side) : Type 0 where
  pub lines : (party hour : ℕ) → party < length sides → 1 ≤ hour → hour ≤ 24
      → RightLine (slice_index_or sides party Seller) (line_in file layout (slice_index_or sides party Seller) (24 * party + (hour - 1)))
  pub contracts : (k : ℕ) → k < layout.contract_count → RightContract sides (contract_in file (item_at layout Contracts k))
