use Rattle.std.proofs.Common.{ℕ, ◌*◌, length, sym, ap, ◌∙◌, arith}
use Rattle.std.proofs.lemmas.Int.{ints}
use Rattle.market.specs.Limits.{most_kwh}
use Rattle.money.specs.Sums.{summed}
use Rattle.money.proofs.Exact.{energy_size}
use Rattle.money.proofs.Summing.{summed_none, turn}
use Rattle.prices.proofs.Rows.{one_more, party_turn, parties_end}
use Rattle.prices.proofs.days.Day.traded.Goals as goal

pub loop-side-init : goal.loop-side-init
loop-side-init c = ((tt, tt), tt, sym (summed_none _), sym (summed_none _), omega arith, omega arith)

pub forming-part-requires : goal.forming-part-requires
forming-part-requires c =
    let day = c.args.self in
    let at = party_turn day.sides.now day.lines.now c.rows.result.now c.args.hour.index _ _ _ c.next.new.self _ (cc) (cc) c.loop-side.yielded_by c.next.ensures.steps _ _ c.in-Some.is c.rows.ensures.lines c.args.hour.early day.priced.lines in
    at.3

pub overflow_add-worth : goal.overflow_add-worth
overflow_add-worth c =
    let day = c.args.self in
    let at = party_turn day.sides.now day.lines.now c.rows.result.now c.args.hour.index _ _ _ c.next.new.self _ (cc) (cc) c.loop-side.yielded_by c.next.ensures.steps _ _ c.in-Some.is c.rows.ensures.lines c.args.hour.early day.priced.lines in
    omega (arith, ints, at.0, day.priced.lines.few, c.forming-part.ensures.modest, c.loop-side.invariant.5)

pub loop-side-preserved : goal.loop-side-preserved
loop-side-preserved c =
    let day = c.args.self in
    let at = party_turn day.sides.now day.lines.now c.rows.result.now c.args.hour.index _ _ _ c.next.new.self _ (cc) (cc) c.loop-side.yielded_by c.next.ensures.steps _ _ c.in-Some.is c.rows.ensures.lines c.args.hour.early day.priced.lines in
    let part = c.forming-part.ensures in
    let sums = c.loop-side.invariant in
    let k : ℕ = length c.loop-side.yielded in
    let more = turn _ k (most_kwh * k) most_kwh _ _ sums.2 sums.4 (rw (at.1, at.2) at part.kwh) (energy_size _ part.energy) (omega (arith, at.0, day.priced.lines.few)) in
    let richer = turn _ k (80000000000000 * k) 80000000000000 _ _ sums.3 sums.5 (rw (at.1, at.2) at part.worth) part.modest (omega (arith, at.0, day.priced.lines.few)) in
    let n = one_more c.loop-side.yielded (c.in-Some.side, c.in-Some.row) in
    ((tt, tt), tt, more.1 ∙ ap (summed _) (sym n), richer.1 ∙ ap (summed _) (sym n), omega (arith, n, more.2), omega (arith, n, richer.2))

pub returns-clause-worth : goal.returns-clause-worth
returns-clause-worth c =
    let day = c.args.self in
    let end = parties_end day.sides.now day.lines.now c.rows.result.now c.args.hour.index _ _ _ c.next.new.self _ (cc) (cc) c.loop-side.yielded_by c.next.ensures.steps c.in-None.is c.rows.ensures.parties in
    c.loop-side.invariant.3 ∙ ap (summed _) end
