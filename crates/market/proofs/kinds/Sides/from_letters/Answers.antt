use Rattle.std.proofs.Common.{◌≡◌, length, None, sym, refl, ◌∙◌, arith, length-set}
use Rattle.std.proofs.lemmas.Result.{err_from_is_err_and}
use Rattle.std.proofs.lemmas.List.{take_all}
use Rattle.faults.specs.Rows.{first}
use Rattle.faults.proofs.Firsts.{below_none, below_step, below_found}
use Rattle.market.specs.Letters.{letter_row, letter_rows}
use Rattle.market.proofs.Naming.{known, told, named_more, counted, miscounted, exact_letters}
use Rattle.market.proofs.kinds.Sides.from_letters.Goals as goal

pub loop-index-init : goal.loop-index-init
loop-index-init c = record { known = below_none (letter_row c.args.letters.now); named = refl; room = refl; some = grind arith; few = grind arith }

pub loop-index-preserved : goal.loop-index-preserved
loop-index-preserved c =
    let before = c.loop-index.invariant in
    record {
      known = below_step (letter_row c.args.letters.now) c.loop-index.index before.known (known c.args.letters.now c.loop-index.index c.from.result c.in_ok-slots.field-0 c.from.ensures c.in_ok-slots.ensures);
      named = named_more c.loop-index.slots c.args.letters.now c.loop-index.index c.from.result c.in_ok-slots.field-0 (omega arith) (omega arith) before.named c.from.ensures c.in_ok-slots.ensures;
      room = simp length-set before.room;
      some = before.some;
      few = before.few;
    }

pub returns-in_err-slots : goal.returns-in_err-slots
returns-in_err-slots c =
    let p = err_from_is_err_and c.from_residual.result c.from_residual.ensures.1 in
    let here = told c.args.letters.now c.loop-index.index c.from.result c.in_err-slots.field-0.0 c.from.ensures c.in_err-slots.ensures in
    let found = below_found (letter_row c.args.letters.now) c.loop-index.index (length c.args.letters.now) c.in_err-slots.field-0.0 (omega arith) c.loop-index.invariant.known here in
    let e = sym (counted c.args.letters.now c.loop-index.invariant.some c.loop-index.invariant.few ∙ found) in
    rw (p.1, p.2) (record { fault = e; exact = exact_letters c.args.letters.now e; sides = tt })

pub returns : goal.returns
returns c =
    let e : None ≡ first (letter_rows c.args.letters.now) = grind (arith, counted) in
    record { fault = e; exact = exact_letters c.args.letters.now e; sides = grind (arith, take_all) }

pub returns-then-not-contains : goal.returns-then-not-contains
returns-then-not-contains c =
    let e = miscounted c.args.letters.now (let h : _ = grind arith in h) in
    record { fault = e; exact = exact_letters c.args.letters.now e; sides = tt }
