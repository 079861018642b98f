use Rattle.std.proofs.Common.{ℕ, List}
use Rattle.sharing.proofs.Dividing.{refused_product, fund_within, accepted}
use Rattle.sharing.proofs.division.check_fund.Goals as goal

pub returns-then-size-total : goal.returns-then-size-total
returns-then-size-total g c =
    let counted : List ℕ = g.R.SharingRule.counted c.args.rule.now c.args.given.now in
    let total = c.counted_total-total.ensures in
    record {
      refusal = refused_product c.args.given.now counted c.args.size c.counted_total-total.result total.value total.some total.weights c.if-size-total.true;
      total = tt;
      some = tt;
      fund = tt;
    }

pub returns : goal.returns
returns g c =
    let counted : List ℕ = g.R.SharingRule.counted c.args.rule.now c.args.given.now in
    let total = c.counted_total-total.ensures in
    record {
      refusal = accepted c.args.given.now counted c.args.size c.counted_total-total.result total.value total.weights c.if-size-total.false;
      total = total.value;
      some = total.some;
      fund = fund_within c.args.given.now counted c.args.size c.counted_total-total.result total.value c.if-size-total.false;
    }
