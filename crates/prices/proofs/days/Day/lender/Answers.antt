use Rattle.std.proofs.Common.{Some, rules}
use Rattle.prices.specs.Hours.{sold}
use Rattle.prices.proofs.Lending.{borrows}
use Rattle.prices.proofs.days.Day.lender.Goals as goal

pub returns-in-Some-clause-borrows : goal.returns-in-Some-clause-borrows
returns-in-Some-clause-borrows c = borrows (sold c.args.market c.args.self.sides.now c.args.self.lines.now) c.args.hour.index c.args.hour.early (Some c.in-Some.later) (search rules)

pub returns-in-None-clause-borrows : goal.returns-in-None-clause-borrows
returns-in-None-clause-borrows c = borrows (sold c.args.market c.args.self.sides.now c.args.self.lines.now) c.args.hour.index c.args.hour.early c.last_before.result (search rules)
