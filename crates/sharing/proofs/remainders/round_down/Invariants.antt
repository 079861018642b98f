use Rattle.std.proofs.Common.{◌≡◌, ℕ, ◌+◌, ◌<◌, length, get_or, take, sum}
use Rattle.sharing.specs.LargestRemainders.{floors, remainders}
use Rattle.sharing.proofs.remainders.round_down.Given as goal

abbrev pub invariant-loop-party : goal.invariant-loop-party
invariant-loop-party l = record {
  left : l.left + sum (take l.party (floors l.counted l.fund)) ≡ l.fund;
  shares : (k : ℕ) → k < l.party → get_or l.out k 0 ≡ get_or (floors l.counted l.fund) k 0;
  space : length l.rest ≡ length l.counted;
  rests : (k : ℕ) → k < l.party → get_or l.rest k 0 ≡ get_or (remainders l.counted l.fund) k 0;
}
