use Rattle.std.proofs.Common.{ℕ, ◌<◌, ◌≤◌, length, get_or}
use Rattle.sharing.proofs.remainders.first_largest.Given as goal

-- no number so far is above the first largest, and those before it are below it
abbrev pub invariant-loop-place : goal.invariant-loop-place
invariant-loop-place l = record {
  within : l.first < length l.numbers;
  none_above : (k : ℕ) → k < l.place → get_or l.numbers k 0 ≤ get_or l.numbers l.first 0;
  before_below : (k : ℕ) → k < l.first → get_or l.numbers k 0 < get_or l.numbers l.first 0;
}
