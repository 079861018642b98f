use Rattle.std.proofs.Common.{◌≡◌, ℕ, ◌+◌, ◌-◌, ◌*◌, ◌/◌, ◌<◌, List, length, get_or, take, set, sum, refl, ap, ◌∙◌, arith}
use Rattle.std.proofs.lemmas.List.Edits.{fill_by_more}
use Rattle.std.proofs.lemmas.List.{ext_get_or}
use Rattle.std.proofs.lemmas.List.Sums.{sum_by_more, sum_by_more_le}
use Rattle.sharing.specs.RunningShares.{running_shares}
use Rattle.sharing.specs.Telescoping.{running_length, running_code}
use Rattle.sharing.proofs.running.RunningSharingRule.share_all.Goals as goal

pub overflow_add-running : goal.overflow_add-running
overflow_add-running c =
    let l : c.loop-party.party < length c.of-counted.result = omega arith in
    omega (arith, sum_by_more_le (λ (x : ℕ). x) c.of-counted.result c.loop-party.party 0 l, c.weight-running.ensures, c.loop-party.invariant.0, c.total-total.ensures.value, c.total-total.type_inv)

pub loop-party-preserved : goal.loop-party-preserved
loop-party-preserved c =
    let ws : List ℕ = c.of-counted.result in
    let fund : ℕ = c.args.fund in
    let p : ℕ = c.loop-party.party in
    let l : p < length ws = omega arith in
    let more : c.loop-party.running + c.weight-running.result ≡ sum (take (p + 1) ws) = omega (arith, sum_by_more (λ (x : ℕ). x) ws p 0 l, c.weight-running.ensures, c.loop-party.invariant.0) in
    let up : ℕ = fund * (c.loop-party.running + c.weight-running.result) / c.total-total.result in
    let share = ap (λ (z : ℕ). up - z) c.loop-party.invariant.1 ∙ running_code ws fund p _ _ _ l c.loop-party.invariant.0 more c.total-total.ensures.value in (
      more,
      refl,
      λ k h. ap (λ (z : ℕ). get_or (set c.loop-party.out p z) k 0) share
          ∙ fill_by_more (λ q. get_or (running_shares ws fund) q 0) c.loop-party.out p 0 (omega arith) c.loop-party.invariant.2 k h,
    )

pub returns : goal.returns
returns c =
    let ws : List ℕ = c.of-counted.result in
    let long = running_length ws c.args.fund in
    ext_get_or 0 c.loop-party.out (running_shares ws c.args.fund) (omega arith) (λ i h. c.loop-party.invariant.2 i (omega arith))
    ∙ ap (λ (counted : List ℕ). running_shares counted c.args.fund) c.of-counted.ensures.value
