use Rattle.std.proofs.Common.{◌≡◌, ℕ, ◌-◌, ◌<◌, ◌≤◌, length, pos}
use Rattle.prices.specs.Hours.{sold, first_from}
use Rattle.prices.proofs.Pricing.{energy_by}
use Rattle.prices.proofs.days.Day.first_from.Given as goal

abbrev pub invariant-loop-side : goal.invariant-loop-side
invariant-loop-side l =
    (goal.iterator-loop-side).can_next l.side-iterator × (goal.iterator-loop-side).is_finite l.side-iterator
    × ((k : ℕ) → k < length l.yielded → energy_by l.market l.fn.self.sides.now l.fn.self.lines.now l.hour k ≡ pos 0)

abbrev pub invariant-hours : goal.invariant-hours
invariant-hours l =
    (l.hour ≤ 24)
    × (first_from (sold l.market l.fn.self.sides.now l.fn.self.lines.now) l.hour (24 - l.hour) ≡ first_from (sold l.market l.fn.self.sides.now l.fn.self.lines.now) l.fn.from.index (24 - l.fn.from.index))

abbrev pub decreases-hours : goal.decreases-hours
decreases-hours l = 24 - l.hour
