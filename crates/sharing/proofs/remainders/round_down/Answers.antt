use Rattle.std.proofs.Common.{ℕ, ◌<◌, List, length, get_or, set, sum, ap, ◌∙◌, arith}
use Rattle.std.proofs.lemmas.List.{ext_get_or, length-set, take_all}
use Rattle.std.proofs.lemmas.List.Edits.{fill_by_more}
use Rattle.sharing.specs.LargestRemainders.{floors, remainders}
use Rattle.sharing.specs.Handing.{floors_length, floor_code, floor_more, floor_le, remainders_length, remainder_code}
use Rattle.sharing.proofs.remainders.round_down.Goals as goal

pub overflow_sub-left : goal.overflow_sub-left
overflow_sub-left c =
    omega (arith, floor_le c.args.counted.now c.args.fund c.loop-party.party _ _ (omega arith) c.weight.ensures c.total-total.ensures.value c.total-total.ensures.some, c.loop-party.invariant.left)

pub loop-party-preserved : goal.loop-party-preserved
loop-party-preserved c =
    let ws : List ℕ = c.args.counted.now in
    let fund : ℕ = c.args.fund in
    let p : ℕ = c.loop-party.party in
    let l : p < length ws = omega arith in
    let f = floor_code ws fund p _ _ l c.weight.ensures c.total-total.ensures.value in
    let r = remainder_code ws fund p _ _ l c.weight.ensures c.total-total.ensures.value in
    let more = floor_more ws fund p _ _ l c.weight.ensures c.total-total.ensures.value in
    let le = floor_le ws fund p _ _ l c.weight.ensures c.total-total.ensures.value c.total-total.ensures.some in
    record {
      left = omega (arith, more, le, c.loop-party.invariant.left);
      shares = λ k h. ap (λ z. get_or (set c.loop-party.out p z) k 0) f ∙ fill_by_more (λ q. get_or (floors ws fund) q 0) c.loop-party.out p 0 (omega arith) c.loop-party.invariant.shares k h;
      space = length-set c.loop-party.rest p _ ∙ c.loop-party.invariant.space;
      rests = λ k h. ap (λ z. get_or (set c.loop-party.rest p z) k 0) r ∙ fill_by_more (λ q. get_or (remainders ws fund) q 0) c.loop-party.rest p 0 (omega arith) c.loop-party.invariant.rests k h;
    }

pub returns : goal.returns
returns c =
    let ws : List ℕ = c.args.counted.now in
    let fund : ℕ = c.args.fund in
    let long = floors_length ws fund in
    let rests_long = remainders_length ws fund in
    let all = ap sum (take_all c.loop-party.party (floors ws fund) (omega arith)) in
    record {
      floors = ext_get_or 0 c.loop-party.out (floors ws fund) (omega arith) (λ i h. c.loop-party.invariant.shares i (omega arith));
      rest = ext_get_or 0 c.loop-party.rest (remainders ws fund) (omega arith) (λ i h. c.loop-party.invariant.rests i (omega arith));
      left = omega (arith, all, c.loop-party.invariant.left);
    }
