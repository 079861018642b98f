use Rattle.std.proofs.Common.{◌≡◌, ℕ, ◌-◌, ◌<◌, List, sum, sym, ap, ◌∙◌, subst, arith}
use Rattle.sharing.specs.AsGiven.{as_given}
use Rattle.sharing.specs.Counting.{as_given_sum}
use Rattle.sharing.specs.Limits.{Weights}
use Rattle.sharing.specs.LargestRemainders.{floors, remainders, hand_out, largest_remainder_shares, ServedFirst}
use Rattle.sharing.specs.Handing.{floors_le, served_first}
use Rattle.sharing.proofs.remainders.LargestRemainderSharingRule.share_all.Goals as goal

some : (given : List ℕ) → Weights given → 0 < sum (as_given given)
some given weights = as_given_sum given weights.some

pub hand_out-requires-clause-fits : goal.hand_out-requires-clause-fits
hand_out-requires-clause-fits c =
    let total : 0 < sum c.of-counted.result = rw c.of-counted.ensures.value (some c.args.given.now (subst Weights c.given.view_is c.given.invariant)) in
    omega (arith, ap sum c.round_down-left.ensures.floors, floors_le c.of-counted.result c.args.fund total, c.round_down-left.ensures.left, c.ranges.fund.fits)

shared : (ws : List ℕ) (fund left : ℕ) (out rest : List ℕ) → left ≡ fund - sum (floors ws fund) → rest ≡ remainders ws fund → out ≡ floors ws fund
    → hand_out left rest out ≡ largest_remainder_shares ws fund
unfolding largest_remainder_shares
shared ws fund left out rest el er eo = rw (el, er, eo)

pub returns : goal.returns
returns c =
    let ws : List ℕ = as_given c.args.given.now in
    let e = c.hand_out.ensures ∙ shared _ c.args.fund _ _ _ c.round_down-left.ensures.left c.round_down-left.ensures.rest c.round_down-left.ensures.floors ∙ ap (λ (counted : List ℕ). largest_remainder_shares counted c.args.fund) c.of-counted.ensures.value in
    record {
      shares = e;
      served = subst (ServedFirst ws c.args.fund) (sym e) (served_first ws c.args.fund (some c.args.given.now (subst Weights c.given.view_is c.given.invariant)));
    }
