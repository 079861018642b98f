use Rattle.std.proofs.Common.{◌≡◌, ◌+◌, ◌-◌, ◌^◌, ◌<◌, sum}
use Rattle.sharing.specs.LargestRemainders.{hand_out}
use Rattle.sharing.proofs.remainders.hand_out.Given as goal

abbrev pub invariant-loop-served : goal.invariant-loop-served
invariant-loop-served l =
    (hand_out (l.left - l._served) l.rest l.out ≡ hand_out l.left l.initial.rest l.initial.out)
    × (sum l.out + (l.left - l._served) < 2 ^ 64)
