use Rattle.std.proofs.Common.{◌≡◌, ◌*◌, ◌≤◌, length, nat_abs}
use Rattle.market.specs.Limits.{most_kwh}
use Rattle.money.specs.Sums.{summed}
use Rattle.prices.proofs.Pricing.{energy_by, worth_by}
use Rattle.prices.proofs.days.Day.traded.Given as goal

abbrev pub invariant-loop-side : goal.invariant-loop-side
invariant-loop-side l =
    (goal.iterator-loop-side).can_next l.side-iterator × (goal.iterator-loop-side).is_finite l.side-iterator
    × (l.kwh ≡ summed (energy_by l.market l.fn.self.sides.now l.fn.self.lines.now l.hour.index) (length l.yielded)) × (l.worth ≡ summed (worth_by l.market l.fn.self.sides.now l.fn.self.lines.now l.hour.index) (length l.yielded))
    × (nat_abs l.kwh ≤ most_kwh * length l.yielded) × (nat_abs l.worth ≤ 80000000000000 * length l.yielded)
