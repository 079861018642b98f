-- The limits within which a fund is shared.
use Rattle.std.specs.Prelude.{ℕ, ◌*◌, ◌<◌, ◌≤◌, List, length, sum, slice_index}

abbrev pub most_parties : ℕ
most_parties = 64

-- the weight of one party
abbrev pub most_weight : ℕ
most_weight = 2976000000

-- the fund times the total of the counted weights
abbrev pub most_product : ℕ
most_product = 9000000000000000000

-- there are parties, and not too many, and no weight is too large
pub record Weights (given : List ℕ) : Type 0 where
  pub some : 0 < length given
  pub few : length given ≤ most_parties
  pub small : (party : ℕ) → party < length given → slice_index given party ≤ most_weight

abbrev pub Shareable : ℕ → List ℕ → Type 0
Shareable fund counted = fund * sum counted ≤ most_product
