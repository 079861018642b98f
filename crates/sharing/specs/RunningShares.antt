-- Shares by running weight.
use Rattle.std.specs.Prelude.{ℕ, ◌+◌, ◌-◌, ◌*◌, ◌/◌, List, map, length, take, sum}
use Rattle.std.specs.List.{range_with_len}

-- what the first n parties have together: their part of the fund, rounded down
abbrev pub up_to : List ℕ → ℕ → ℕ → ℕ
up_to weights fund n = fund * sum (take n weights) / sum weights

-- a party has what the parties up to and with it have, less what those before it have
abbrev pub running_share : List ℕ → ℕ → ℕ → ℕ
running_share weights fund party = up_to weights fund (party + 1) - up_to weights fund party

unfoldable pub running_shares : List ℕ → ℕ → List ℕ
running_shares weights fund = map (running_share weights fund) (range_with_len 0 (length weights))
