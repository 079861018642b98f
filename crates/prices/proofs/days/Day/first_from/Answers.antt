use Rattle.std.proofs.Common.{◌≡◌, ℕ, ◌-◌, Bool, length, pos, sym, ap, ◌∙◌, arith, below_more}
use Rattle.std.proofs.lemmas.Bool.{cond-true, cond-false}
use Rattle.prices.specs.Hours.{sold, first_from}
use Rattle.prices.proofs.Pricing.{energy_by, empty_hour, empty_since, sold_since}
use Rattle.prices.proofs.Rows.{one_more, party_turn, parties_end}
use Rattle.prices.proofs.Searching.{first_step}
use Rattle.prices.proofs.days.Day.first_from.Goals as goal

pub forming-requires : goal.forming-requires
forming-requires c =
    let day = c.args.self in
    let at = party_turn day.sides.now day.lines.now c.rows.result.now c.hours.hour _ _ _ c.next.new.self _ (cc) (cc) c.loop-side.yielded_by c.next.ensures.steps _ _ c.in-Some.is c.rows.ensures.lines (omega arith) day.priced.lines in
    at.3

pub loop-side-preserved : goal.loop-side-preserved
loop-side-preserved c =
    let day = c.args.self in
    let at = party_turn day.sides.now day.lines.now c.rows.result.now c.hours.hour _ _ _ c.next.new.self _ (cc) (cc) c.loop-side.yielded_by c.next.ensures.steps _ _ c.in-Some.is c.rows.ensures.lines (omega arith) day.priced.lines in
    let n = one_more c.loop-side.yielded (c.in-Some.side, c.in-Some.row) in
    let empty = below_more (λ p. energy_by c.args.market day.sides.now day.lines.now c.hours.hour p ≡ pos 0) (length c.loop-side.yielded) c.loop-side.invariant.2
    (empty_since _ _ (rw (at.1, at.2) at c.forming.ensures.kwh) c.forming.ensures.energy c.if-forming-gt0.false) in
    ((tt, tt), tt, λ p l. empty p (omega (arith, n, l)))

pub hours-preserved : goal.hours-preserved
hours-preserved c =
    let day = c.args.self in
    let end = parties_end day.sides.now day.lines.now c.rows.result.now c.hours.hour _ _ _ c.next.new.self _ (cc) (cc) c.loop-side.yielded_by c.next.ensures.steps c.in-None.is c.rows.ensures.parties in
    let e = empty_hour c.args.market day.sides.now day.lines.now c.hours.hour (λ p l. c.loop-side.invariant.2 p (omega (arith, end))) in
    (omega arith, sym (first_step _ c.hours.hour (omega arith) ∙ cond-false _ _ _ e) ∙ c.hours.invariant.1)

pub returns-then-hour-ge24 : goal.returns-then-hour-ge24
unfolding first_from
returns-then-hour-ge24 c =
    let none : 24 - c.hours.hour ≡ 0 = omega arith in
    sym (ap (first_from (sold c.args.market c.args.self.sides.now c.args.self.lines.now) c.hours.hour) none) ∙ c.hours.invariant.1

pub returns-then-forming-gt0 : goal.returns-then-forming-gt0
returns-then-forming-gt0 c =
    let day = c.args.self in
    let at = party_turn day.sides.now day.lines.now c.rows.result.now c.hours.hour _ _ _ c.next.new.self _ (cc) (cc) c.loop-side.yielded_by c.next.ensures.steps _ _ c.in-Some.is c.rows.ensures.lines (omega arith) day.priced.lines in
    let full : ℕ → Bool = sold c.args.market day.sides.now day.lines.now in
    let e = sold_since c.args.market day.sides.now day.lines.now day.priced.lines c.hours.hour (omega arith) (length c.loop-side.yielded) at.0 _ (rw (at.1, at.2) at c.forming.ensures.kwh) c.forming.ensures.energy c.if-forming-gt0.true in
    sym (first_step full c.hours.hour (omega arith) ∙ cond-true _ _ _ e) ∙ c.hours.invariant.1
