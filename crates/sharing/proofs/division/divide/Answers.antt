use Rattle.std.proofs.Common.{◌≡◌, ℕ, ◌≤◌, ◌++◌, List, length, drop, map, take, replicate, ℤ, pos, nat_abs, sum, sym, ap, ◌∙◌, subst, arith, w64}
use Rattle.std.proofs.lemmas.List.{length-take-le}
use Rattle.std.proofs.lemmas.Int.{to_z-of_z}
use Rattle.std.proofs.lemmas.Result.{err_from_is_err_and}
use Rattle.sharing.specs.Divisions.{unshareable, signed_as, signed_shares, AddUp, NearParts}
use Rattle.sharing.specs.Limits.{Shareable, Weights}
use Rattle.sharing.proofs.Dividing.{size_within, adds_up, near_parts, refused_weights, signed_all}
use Rattle.sharing.proofs.division.divide.Goals as goal

pub returns-in_err-given-clause-refusal : goal.returns-in_err-given-clause-refusal
returns-in_err-given-clause-refusal g c =
    let p = err_from_is_err_and c.from_residual.result c.from_residual.ensures.1 in
    rw (p.1, p.2) (refused_weights c.args.given.now (g.R.SharingRule.counted c.args.rule.now c.args.given.now) (nat_abs c.args.fund) c.in_err-given.field-0.0 c.in_err-given.ensures.refusal)

front_long : {A : Type 0} (n : ℕ) (xs : List A) (out : List ℕ) → n ≤ length xs → n ≡ length out → length (take n xs) ≡ length out
front_long n xs out few e = length-take-le n xs few ∙ e

pub write_signed-requires : goal.write_signed-requires
write_signed-requires g c =
    let gs : List ℕ = c.in_ok-given.given in
    let size : ℕ = c.unsigned_abs-size.result in
    let n : ℕ = length c.given.inside.weights.now in
    let fit : Weights gs = subst Weights c.given.view_is c.given.invariant in
    let fund : Shareable size (g.R.SharingRule.counted c.args.rule.now gs) = c.in_ok-check_fund.ensures.fund in
    let law = g.met.R.SharingRule in
    let adds = law.adds c.args.rule.now gs size fit fund in
    let most = size_within size (g.R.SharingRule.counted c.args.rule.now gs) (law.weighs c.args.rule.now gs fit) fund in
    record {
      room = front_long n _ c.share_all.new.out (omega (arith, ap length c.given.view_is, fit.few))
          (omega (arith, ap length c.share_all.ensures, law.complete c.args.rule.now gs size fit fund, ap length c.given.view_is));
      small = omega (arith, ap sum c.share_all.ensures, adds, most);
    }

pub returns : goal.returns
returns g c =
    let rule = c.args.rule.now in
    let fund : ℤ = c.args.fund in
    let given : List ℕ = c.args.given.now in
    let n : ℕ = length c.given.inside.weights.now in
    let same : c.in_ok-given.given ≡ given = c.in_ok-given.ensures.given in
    let size = c.unsigned_abs-size.ensures.value ∙ ap nat_abs (to_z-of_z w64 fund c.ranges.fund) in
    let counted : List ℕ = g.R.SharingRule.counted rule given in
    let sizes : List ℕ = g.R.SharingRule.shares rule given (nat_abs fund) in
    let weights : Weights given = subst Weights (c.given.view_is ∙ same) c.given.invariant in
    let within : Shareable (nat_abs fund) counted =
    subst (λ (m : ℕ). Shareable m counted) size (subst (λ (ws : List ℕ). Shareable c.unsigned_abs-size.result (g.R.SharingRule.counted rule ws)) same c.in_ok-check_fund.ensures.fund) in
    let law = g.met.R.SharingRule in
    let long = law.complete rule given (nat_abs fund) weights within in
    let out : c.share_all.new.out ≡ sizes =
    c.share_all.ensures ∙ ap (λ (ws : List ℕ). g.R.SharingRule.shares rule ws c.unsigned_abs-size.result) same ∙ ap (g.R.SharingRule.shares rule given) size in
    let e : c.write_signed.new.shares ++ drop n (replicate 64 (pos 0)) ≡ signed_shares fund sizes =
    ap (λ (xs : List ℤ). xs ++ drop n (replicate 64 (pos 0)))
    (c.write_signed.ensures ∙ ap (λ (z : ℤ). map (signed_as z) c.share_all.new.out) (to_z-of_z w64 fund c.ranges.fund) ∙ ap (map (signed_as fund)) out)
    ∙ signed_all fund sizes n (long ∙ sym (ap length (c.given.view_is ∙ same))) in
    record {
      refusal = c.in_ok-check_fund.ensures.refusal ∙ ap (λ (ws : List ℕ). unshareable ws (g.R.SharingRule.counted rule ws) c.unsigned_abs-size.result) same ∙ ap (unshareable given counted) size;
      shares = e;
      adds = subst (AddUp (length given) fund) (sym e) (adds_up fund sizes (length given) long (law.adds rule given (nat_abs fund) weights within));
      near = subst (NearParts counted fund) (sym e)
          (near_parts fund sizes counted (long ∙ sym (law.aligned rule given weights)) (λ p l. law.upper rule given (nat_abs fund) p weights within (omega (arith, law.aligned rule given weights)))
          (λ p l. law.lower rule given (nat_abs fund) p weights within (omega (arith, law.aligned rule given weights))));
    }
