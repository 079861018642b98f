-- Shares beside the exact parts of a fund: both times the total of the counted weights, so that nothing is divided.
use Rattle.std.specs.Prelude.{ℕ, ◌+◌, ◌*◌, ◌<◌, List, sum, slice_index}

-- a party's share is less than one fen above its part
abbrev pub LessThanFenAbove : List ℕ → ℕ → List ℕ → ℕ → Type 0
LessThanFenAbove counted fund shares party = slice_index shares party * sum counted < fund * slice_index counted party + sum counted

-- and less than one fen below it
abbrev pub LessThanFenBelow : List ℕ → ℕ → List ℕ → ℕ → Type 0
LessThanFenBelow counted fund shares party = fund * slice_index counted party < slice_index shares party * sum counted + sum counted
