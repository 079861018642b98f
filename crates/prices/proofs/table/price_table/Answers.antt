use Rattle.std.proofs.Common.{get_or, pos, ◌∙◌, arith, rules, w64}
use Rattle.std.proofs.lemmas.Int.{to_z-of_z}
use Rattle.prices.specs.Borrowing.{PairedBy}
use Rattle.prices.proofs.Lending.{made}
use Rattle.prices.proofs.table.price_table.Goals as goal

pub returns : goal.returns
returns c =
    let given = c.in_ok-day.ensures in
    let day = c.in_ok-day.day in
    let reference = given.2 ∙ to_z-of_z w64 c.args.reference c.ranges.reference in (
      rw (given.0, given.1, reference) at day.priced,
      (λ hour early.
          let pair : PairedBy day.sides.now day.lines.now day.reference hour (get_or c.from_fn.result hour (pos 0, pos 0)) =
          made _ _ c.from_fn.result (PairedBy day.sides.now day.lines.now day.reference) (λ i y q k. search rules) 24 0 c.from_fn.ensures.items.each hour (omega arith) (omega arith) _ in
          rw (given.0, given.1, reference) at pair),
    )
