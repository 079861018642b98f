use Rattle.std.proofs.Common.{◌≡◌, ℕ, ℤ, Some, None, unwrap_or, sym, ap, ◌∙◌, subst}
use Rattle.std.proofs.lemmas.Bool.{cond-true}
use Rattle.market.specs.Limits.{Price}
use Rattle.money.proofs.Exact.{kept, price_kept}
use Rattle.prices.specs.Hours.{price_in, price_or}
use Rattle.prices.proofs.Pricing.{price_within}
use Rattle.prices.proofs.days.Day.price.Goals as goal

pub returns-in-Some : goal.returns-in-Some
returns-in-Some c =
    let prices : ℕ → ℤ = price_in c.args.market c.args.self.sides.now c.args.self.lines.now in
    let lending : ℕ = c.in-Some.index in
    let found = c.in-Some.ensures in
    let full = found.borrows.1 in
    let limits = price_within c.args.market c.args.self.sides.now c.args.self.lines.now c.args.self.priced.lines lending found.borrows.0 full in
    let lent : c.unwrap_or-mil.result ≡ prices lending = c.unwrap_or-mil.ensures
    ∙ ap (λ o. unwrap_or o (kept c.args.self.reference)) (c.own_price.ensures ∙ cond-true _ (Some (prices lending)) None full) in
    let price : kept c.unwrap_or-mil.result ≡ prices lending = ap kept lent ∙ price_kept (prices lending) limits in
    record {
      value = price ∙ ap (price_or prices c.args.self.reference) found.value;
      limits = subst Price (sym price) limits;
      lent = found.value;
      borrows = found.borrows;
    }
