-- The records of a day's file and their check: the numbers of a line, a contract, and the rows of refusals 16 to 18 in the order of their offsets.
-- A line is one party's hour. Lines are counted from 0, party by party and hour by hour, 24 to a party.
use Rattle.std.specs.Prelude.{ℕ, ◌+◌, ◌-◌, ◌*◌, ◌/◌, ◌≤◌, Bool, true, false, not, ◌&&◌, ◌||◌, List, [], ◌∷◌, ◌++◌, length, pos, Option, ◌==◌, nat_lt, slice_index_or}
use Rattle.std.specs.Bool.{then_some}
use Rattle.faults.specs.declared.causes.Section.{Section}
use Rattle.faults.specs.declared.causes.Section.TheVariants.{Quantities, NodePrices, Contracts}
use Rattle.faults.specs.declared.causes.RecordFault.{RecordFault}
use Rattle.faults.specs.declared.causes.RecordFault.TheVariants as faults
use Rattle.faults.specs.Rows.{rows_below}
use Rattle.market.specs.declared.kinds.Side.{Side}
use Rattle.market.specs.declared.kinds.Side.TheVariants.{Seller, Buyer}
use Rattle.market.specs.Limits.{outside, most_kwh, beyond_day_ahead, beyond_metered, beyond_price, kept_of}
use Rattle.dayfile.specs.Bytes.{byte_at, word_at, signed_at}
use Rattle.dayfile.specs.Layouts.{layout_in}
use Rattle.dayfile.specs.Structure.{structure_rows}
use Rattle.dayfile.specs.declared.parts.Layout.{Layout}
use Rattle.market.specs.declared.records.Line.{Line}
use Rattle.market.specs.declared.records.Contract.{Contract}

-- the side of a line's party
abbrev pub side_at : List Side → ℕ → Side
side_at sides line = slice_index_or sides (line / 24) Seller

-- where an item of a section stands: a line has 8 bytes in each of the first two, a contract has 12
abbrev pub item_at : Layout → Section → ℕ → ℕ
item_at layout Quantities line = layout.quantities + 8 * line
item_at layout NodePrices line = layout.prices + 8 * line
item_at layout Contracts k = layout.contracts + 12 * k

-- how many items a section has
abbrev pub item_count : Layout → List Side → Section → ℕ
item_count layout sides Quantities = 24 * length sides
item_count layout sides NodePrices = 24 * length sides
item_count layout sides Contracts = layout.contract_count

-- 16: day-ahead energy, then the reading
abbrev pub quantity_rows : List ℕ → Side → ℕ → List (RecordFault × Bool)
quantity_rows file side at =
    (faults.BeyondLimits at, beyond_day_ahead (signed_at file at))
    ∷ (faults.BeyondLimits (at + 4), beyond_metered side (signed_at file (at + 4)))
    ∷ []

-- 16 for a seller's price, 17 for a buyer's, which is 0
abbrev pub price_row : List ℕ → Side → ℕ → RecordFault × Bool
price_row file Seller at = (faults.BeyondLimits at, beyond_price (signed_at file at))
price_row file Buyer at = (faults.BuyerPrice at, outside (pos 0) (pos 0) (signed_at file at))

-- the day-ahead price, then the real-time price
abbrev pub price_rows : List ℕ → Side → ℕ → List (RecordFault × Bool)
price_rows file side at = price_row file side at ∷ price_row file side (at + 4) ∷ []

-- a contract's bytes are seller, buyer, hour, a byte that is 0, then kWh (unsigned) and price (signed) of four bytes each
abbrev pub contract_in : List ℕ → ℕ → Contract
contract_in file at =
    record { seller = byte_at file at; buyer = byte_at file (at + 1); hour = byte_at file (at + 2); kwh = pos (word_at file (at + 4)); price = signed_at file (at + 8) }

-- the twelve bytes of a contract's record
abbrev pub record_in : List ℕ → ℕ → List ℕ
record_in file at =
    byte_at file at ∷ byte_at file (at + 1) ∷ byte_at file (at + 2) ∷ byte_at file (at + 3) ∷ byte_at file (at + 4) ∷ byte_at file (at + 5)
    ∷ byte_at file (at + 6) ∷ byte_at file (at + 7) ∷ byte_at file (at + 8) ∷ byte_at file (at + 9) ∷ byte_at file (at + 10) ∷ byte_at file (at + 11) ∷ []

abbrev pub is_seller : Side → Bool
is_seller Seller = true
is_seller Buyer = false

-- a side is the one that is wanted
abbrev pub is_side : Side → Side → Bool
is_side Seller side = is_seller side
is_side Buyer side = not (is_seller side)

-- the seller is a party that sells, the buyer one that buys
abbrev pub wrong_parties : List Side → ℕ → ℕ → Bool
wrong_parties sides seller buyer =
    not (nat_lt seller (length sides) && is_seller (slice_index_or sides seller Seller)) || not (nat_lt buyer (length sides) && not (is_seller (slice_index_or sides buyer Seller)))

-- a contract's numbers: hour 1 to 24, 1 to 4,000,000 kWh, a price within the limits
abbrev pub wrong_terms : Contract → Bool
wrong_terms contract = nat_lt contract.hour 1 || nat_lt 24 contract.hour || outside (pos 1) (pos most_kwh) contract.kwh || beyond_price contract.price

-- 18: a contract breaks a rule
abbrev pub contract_row : List ℕ → List Side → ℕ → List (RecordFault × Bool)
contract_row file sides at = (
  faults.Contract at,
  wrong_parties sides (contract_in file at).seller (contract_in file at).buyer || not (byte_at file (at + 3) == 0) || wrong_terms (contract_in file at),
)
    ∷ []

-- the rows of an item of a section
abbrev pub item_rows : List ℕ → Layout → List Side → Section → ℕ → List (RecordFault × Bool)
item_rows file layout sides Quantities line = quantity_rows file (side_at sides line) (item_at layout Quantities line)
item_rows file layout sides NodePrices line = price_rows file (side_at sides line) (item_at layout NodePrices line)
item_rows file layout sides Contracts k = contract_row file sides (item_at layout Contracts k)

-- the rows of a section, item by item
abbrev pub part_rows : List ℕ → Layout → List Side → Section → List (RecordFault × Bool)
part_rows file layout sides section = rows_below (item_rows file layout sides section) (item_count layout sides section)

-- the rows of a file's records, laid out so, for parties of these sides
unfoldable pub record_rows : List ℕ → Layout → List Side → List (RecordFault × Bool)
record_rows file layout sides = part_rows file layout sides Quantities ++ part_rows file layout sides NodePrices ++ part_rows file layout sides Contracts

-- the numbers of a line; a seller's negative reading is kept as 0
abbrev pub line_in : List ℕ → Layout → Side → ℕ → Line
line_in file layout side line =
    record {
      day_ahead = signed_at file (item_at layout Quantities line);
      metered = kept_of side (signed_at file (item_at layout Quantities line + 4));
      day_ahead_price = signed_at file (item_at layout NodePrices line);
      real_time_price = signed_at file (item_at layout NodePrices line + 4);
    }

-- a line and a contract of a file, where there is such a party, hour or contract
abbrev pub line_of : List ℕ → ℕ → Layout → ℕ → Side → ℕ → Option Line
line_of file parties layout party side hour =
    then_some (nat_lt party parties && (nat_lt 0 hour && nat_lt hour 25)) (line_in file layout side (24 * party + (hour - 1)))

abbrev pub contract_of : List ℕ → Layout → ℕ → Option Contract
contract_of file layout k = then_some (nat_lt k layout.contract_count) (contract_in file (item_at layout Contracts k))

-- 15 where there are not as many sides as the file has parties, then the records
abbrev pub check_rows : List ℕ → ℕ → Layout → List Side → List (RecordFault × Bool)
check_rows file parties layout sides = (faults.PartyCount, not (parties == length sides)) ∷ record_rows file layout sides

-- the whole check of a file for parties of these sides: its structure, then its records
abbrev pub file_rows : List ℕ → List Side → List (RecordFault × Bool)
file_rows file sides = structure_rows file (length sides) ++ record_rows file (layout_in file) sides

-- the sections of a file for so many parties stand one after the other, and the last ends within the file
pub record InOrder (file : List ℕ) (parties : ℕ) (layout : Layout) : Type 0 where
  pub quantities : layout.quantities + 192 * parties ≤ layout.prices
  pub prices : layout.prices + 192 * parties ≤ layout.contracts
  pub contracts : layout.contracts + 12 * layout.contract_count ≤ length file
