use Rattle.std.proofs.Common.{◌≡◌, ℕ, List, length, nat_abs, sum, Some, Ok, Err, Result, sym, ap, ◌∙◌, arith, w64}
use Rattle.std.proofs.lemmas.Int.{to_z-of_z}
use Rattle.std.proofs.lemmas.Result.{IfOk-at_ok}
use Rattle.std.specs.Result.{result_ok, result_err}
use Rattle.sharing.specs.Divisions.{unshareable, part_of}
use Rattle.sharing.proofs.Dividing.{part_there, no_part}
use Rattle.sharing.proofs.division.exact_part.Goals as goal

passed : {A E : Type 0} (r : Result A E) (x : A) → Some x ≡ result_ok r → r ≡ Ok x
passed (Ok y) x e = cc
passed (Err d) x e = cc

pub returns-in_err-given : goal.returns-in_err-given
returns-in_err-given g c =
    c.from_residual.ensures
    ∙ no_part c.args.given.now (g.R.SharingRule.counted c.args.rule.now c.args.given.now) _ c.args.party c.new.result (sym c.in_err-given.was ∙ c.ok.ensures.value) c.new.ensures.refusal

pub returns : goal.returns
returns g c =
    let gs : List ℕ = c.in_ok-given.given in
    let counted : List ℕ = g.R.SharingRule.counted c.args.rule.now gs in
    let same = IfOk-at_ok (λ (ws : List ℕ). ws ≡ c.args.given.now) (passed c.new.result gs c.in_ok-given.ensures.value) c.new.ensures.given in
    let ok = passed c.check_fund.result c.in_ok-total.total c.in_ok-total.ensures.value in
    let total = IfOk-at_ok (λ (t : ℕ). t ≡ sum counted) ok c.check_fund.ensures.total in
    let size = c.unsigned_abs-size.ensures.value ∙ ap nat_abs (to_z-of_z w64 c.args.fund c.ranges.fund) in
    part_there gs counted (nat_abs c.args.fund) c.args.party c.unsigned_abs-size.result c.counted-weight.result c.in_ok-total.total
    (sym (ap result_err ok) ∙ c.check_fund.ensures.refusal ∙ ap (unshareable gs counted) size) (omega (arith, ap length c.given.view_is)) size c.counted-weight.ensures total
    ∙ ap (λ (ws : List ℕ). part_of ws (g.R.SharingRule.counted c.args.rule.now ws) (nat_abs c.args.fund) c.args.party) same
