use Rattle.std.proofs.Common.{◌≡◌, ◌≢◌, pos, rules}
use borrow.Author.Tests.{tests}
use Rattle.std.proofs.lemmas.Iterator.{cases_from_any, YieldsList-from_slice}
use Rattle.std.proofs.lemmas.Iterator.Consumers.{YieldsList-from_enumerate}
use Rattle.totals.specs.Sums.{sold}
use Rattle.totals.proofs.Adding.{from_any}
use Rattle.totals.proofs.sums.seller_ran.Goals as goal

pub returns : goal.returns
returns c =
    from_any (λ party side. sold c.args.file.now party side c.args.hour) c.args.sides.now c.any.result
    (cases_from_any _ _ c.any.result (λ p. sold c.args.file.now p.0 p.1 c.args.hour ≢ pos 0)
    (λ p. sold c.args.file.now p.0 p.1 c.args.hour ≡ pos 0) c.any.ensures.ran
    (YieldsList-from_enumerate (YieldsList-from_slice c.args.sides.now cc) cc) (λ x q k. search (rules, tests)) (λ x q k. search (rules, tests)))
