use Rattle.std.proofs.Common.{map, Some, None, ap, ◌∙◌}
use Rattle.std.proofs.lemmas.Result.{err_from_is_err_and}
use Rattle.market.specs.Letters.{letter_of}
use Rattle.scheduler.proofs.Checking.{by_file}
use Rattle.scheduler.proofs.check_day.Goals as goal

pub returns-in_err-accept : goal.returns-in_err-accept
returns-in_err-accept c =
    let p = err_from_is_err_and c.from_residual-in_err-accept.result c.from_residual-in_err-accept.ensures.1 in
    let letters = c.in_ok-sides.ensures in
    let file = c.in_err-accept.ensures in
    let e = by_file c.args.file.now c.args.letters.now c.as_slice.result.now (Some c.in_err-accept.field-0.0) (ap (map letter_of) c.as_slice.ensures ∙ letters.sides) letters.fault
    file.fault file.exact in
    rw (p.1, p.2) (record { fault = e.0; exact = e.1 })

pub returns : goal.returns
returns c =
    let letters = c.in_ok-sides.ensures in
    let file = c.in_ok-accept.ensures in
    let e = by_file c.args.file.now c.args.letters.now c.as_slice.result.now None (ap (map letter_of) c.as_slice.ensures ∙ letters.sides) letters.fault file.fault file.exact in
    record { fault = e.0; exact = e.1 }
