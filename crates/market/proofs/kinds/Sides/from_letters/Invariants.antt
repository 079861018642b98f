use Rattle.std.proofs.Common.{◌≡◌, ◌≤◌, map, length, take, None}
use Rattle.faults.specs.Rows.{first, rows_below}
use Rattle.market.specs.Letters.{letter_of, letter_row}
use Rattle.market.proofs.kinds.Sides.from_letters.Given as goal

-- the letters so far name the sides so far
abbrev pub invariant-loop-index : goal.invariant-loop-index
invariant-loop-index l = record {
  known : first (rows_below (letter_row l.letters) l.index) ≡ None;
  named : map letter_of (take l.index l.slots) ≡ take l.index l.letters;
  room : length l.slots ≡ 64;
  some : 1 ≤ length l.letters;
  few : length l.letters ≤ 64;
}
