use Rattle.std.proofs.Common.{[], get_or, ap, ◌∙◌, arith}
use Rattle.prices.specs.Hours.{no_line}
use Rattle.prices.proofs.Rows.{row_line}
use Rattle.prices.proofs.days.Day.rows.Goals as goal

pub returns-clause-lines : goal.returns-clause-lines
returns-clause-lines c = λ party hour l early.
    let day = c.args.self.priced.lines in
    let front = c.as_chunks.ensures.front in
    let count = c.as_chunks.ensures.front_len in
    ap (λ xs. get_or (get_or xs party []) hour no_line) front ∙ row_line _ c.args.self.lines.now party hour (omega (arith, day.whole)) (omega (arith, day.whole)) early
