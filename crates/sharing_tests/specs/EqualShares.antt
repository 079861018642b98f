-- A fund in equal parts, whatever the weights.
use Rattle.std.specs.Prelude.{ℕ, ◌+◌, ◌/◌, ◌%◌, cond, List, map, length, replicate, nat_lt}
use Rattle.std.specs.List.{range_with_len}

-- each party counts 1
unfoldable pub one_each : List ℕ → List ℕ
one_each given = replicate (length given) 1

-- of n parties each has the fund divided by n, rounded down, and the first of them have one fen more
abbrev pub equal_share : ℕ → ℕ → ℕ → ℕ
equal_share n fund party = fund / n + cond (nat_lt party (fund % n)) 1 0

unfoldable pub equal_shares : List ℕ → ℕ → List ℕ
equal_shares given fund = map (equal_share (length given) fund) (range_with_len 0 (length given))
