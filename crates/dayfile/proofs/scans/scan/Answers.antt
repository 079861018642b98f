use Rattle.std.proofs.Common.{Err, sym}
use Rattle.std.proofs.lemmas.Result.{err_from_is_err_and}
use Rattle.faults.proofs.Firsts.{below_none, below_step, below_found}
use Rattle.dayfile.proofs.scans.scan.Goals as goal

pub loop-item-init : goal.loop-item-init
loop-item-init g c = λ rows answers. below_none rows

pub returns-in_err-check : goal.returns-in_err-check
returns-in_err-check g c = λ rows answers.
    let p = err_from_is_err_and c.from_residual.result c.from_residual.ensures.1 in
    rw (p.1, p.2)
    (sym (below_found rows c.loop-item.item c.args.items c.in_err-check.field-0.0 c.loop-item-test.true (c.loop-item.invariant rows answers)
    (sym (answers c.loop-item.item (Err c.in_err-check.field-0.0) c.loop-item-test.true c.in_err-check.ensures))))

pub loop-item-preserved : goal.loop-item-preserved
loop-item-preserved g c = λ rows answers.
    below_step rows c.loop-item.item (c.loop-item.invariant rows answers) (sym (answers c.loop-item.item _ c.loop-item-test.true c.in_ok-check.ensures))
