use Rattle.std.proofs.Common.{◌≡◌, ℤ, ◌*ℤ◌, ◌≤◌, nat_abs, arith, w64, SFits}
use Rattle.market.specs.Limits.{Energy, Price}
use Rattle.money.proofs.Exact.{kept, product, energy_size, price_size, worth_is}
use Rattle.prices.proofs.hours.forming.Goals as goal

quoted : (kwh mil : ℤ) → Energy kwh → Price mil → SFits w64 (kept kwh *ℤ kept mil) × (kept (kept kwh *ℤ kept mil) ≡ kwh *ℤ mil) × (nat_abs (kwh *ℤ mil) ≤ 80000000000000)
quoted kwh mil e p = product kwh mil (omega (arith, energy_size kwh e)) (omega (arith, price_size mil p))

pub overflow_mul-result : goal.overflow_mul-result
overflow_mul-result c = let quote = c.in_market-quote in (quoted quote.result.kwh quote.result.mil quote.ensures.energy quote.ensures.price).0

pub returns-in-Seller-clause-worth : goal.returns-in-Seller-clause-worth
returns-in-Seller-clause-worth c =
    let quote = c.in_market-quote in
    let p = quoted quote.result.kwh quote.result.mil quote.ensures.energy quote.ensures.price in
    rw c.in-Seller.is (worth_is _ _ _ _ _ p.1 quote.ensures.kwh quote.ensures.mil)

pub returns-in-Seller-clause-modest : goal.returns-in-Seller-clause-modest
returns-in-Seller-clause-modest c =
    let quote = c.in_market-quote in
    let p = quoted quote.result.kwh quote.result.mil quote.ensures.energy quote.ensures.price in
    rw p.1 p.2
