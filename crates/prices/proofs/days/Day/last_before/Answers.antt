use Rattle.std.proofs.Common.{ℕ, Bool, ap, ◌∙◌, rules}
use borrow.Author.Tests.{tests}
use Rattle.prices.specs.Hours.{sold, last_before}
use Rattle.prices.proofs.Searching.{last_by_find}
use Rattle.prices.proofs.days.Day.last_before.Goals as goal

pub returns : goal.returns
returns c =
    let full : ℕ → Bool = sold c.args.market c.args.self.sides.now c.args.self.lines.now in
    let ran = c.find.ensures.ran in
    last_by_find full _ (λ x b q k. search (rules, tests)) ran.0 c.rev.result _ c.find.result ran.1 (cc) ran.2 ran.3 ran.4 ∙ ap (last_before full) (cc)
