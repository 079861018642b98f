use Rattle.std.proofs.Common.{◌≡◌, ℕ, ◌*◌, ◌/◌, ◌<◌, get_or, take, sum}
use Rattle.sharing.specs.RunningShares.{running_shares}
use Rattle.sharing.proofs.running.RunningSharingRule.share_all.Given as goal

abbrev pub invariant-loop-party : goal.invariant-loop-party
invariant-loop-party l =
    (l.running ≡ sum (take l.party l.counted))
    × (l.handed_out ≡ l.fund * l.running / l.total)
    × ((k : ℕ) → k < l.party → get_or l.out k 0 ≡ get_or (running_shares l.counted l.fund) k 0)
