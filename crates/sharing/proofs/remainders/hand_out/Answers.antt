use Rattle.std.proofs.Common.{ℕ, ◌+◌, ◌-◌, ◌<◌, List, length, get_or, sym, ◌∙◌, arith}
use Rattle.std.proofs.lemmas.List.Sums.{sum_by-set}
use Rattle.sharing.specs.Handing.{hand_out_none, hand_out_more}
use Rattle.sharing.proofs.remainders.hand_out.Goals as goal

pub loop-served-preserved : goal.loop-served-preserved
loop-served-preserved c =
    let b : ℕ = c.first_largest-party.result in
    let out : List ℕ = c.loop-served.out in
    let within : b < length out = omega arith in (
      hand_out_more (c.args.left - c.loop-served._served) (c.args.left - (c.loop-served._served + 1)) c.loop-served.rest out b (omega arith) c.first_largest-party.ensures.value
          ∙ c.loop-served.invariant.0,
      omega (arith, sum_by-set (λ (x : ℕ). x) out b (get_or out b 0 + 1) 0 within),
    )

pub returns : goal.returns
returns c = sym (hand_out_none _ c.loop-served.rest c.loop-served.out (omega arith)) ∙ c.loop-served.invariant.0
