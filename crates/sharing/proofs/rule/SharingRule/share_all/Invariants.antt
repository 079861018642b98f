use Rattle.std.proofs.Common.{◌≡◌, ℕ, ◌<◌, get_or}
use Rattle.sharing.proofs.rule.SharingRule.share_all.Given as goal

abbrev pub invariant-loop-party : goal.invariant-loop-party
invariant-loop-party g l = (k : ℕ) → k < l.party → get_or l.out k 0 ≡ get_or (g.Self.SharingRule.shares l.self l.given l.fund) k 0
