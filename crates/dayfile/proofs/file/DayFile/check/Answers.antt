use Rattle.std.proofs.Common.{arith}
use Rattle.dayfile.proofs.Accepting.{passed}
use Rattle.dayfile.proofs.Checking.{parts}
use Rattle.dayfile.proofs.Ordering.{exact_check}
use Rattle.dayfile.proofs.file.DayFile.check.Goals as goal

pub returns-then-from-sides-clause-exact : goal.returns-then-from-sides-clause-exact
returns-then-from-sides-clause-exact c =
    let f = c.args.self.now in
    exact_check f.bytes.now f.parties f.layout c.args.sides.now (grind (arith, parts)) f.in_order

pub returns-in_err-scan-2-clause-exact : goal.returns-in_err-scan-2-clause-exact
returns-in_err-scan-2-clause-exact c =
    let f = c.args.self.now in
    exact_check f.bytes.now f.parties f.layout c.args.sides.now (grind (arith, parts)) f.in_order

pub returns-clause-exact : goal.returns-clause-exact
returns-clause-exact c =
    let f = c.args.self.now in
    exact_check f.bytes.now f.parties f.layout c.args.sides.now (grind (arith, parts)) f.in_order

pub returns-clause-accepted : goal.returns-clause-accepted
returns-clause-accepted c =
    let f = c.args.self.now in
    passed f.bytes.now f.parties f.layout c.args.sides.now c.scan-3.result (grind (arith, parts))
