use Rattle.std.proofs.Common.{arith}
use Rattle.dayfile.proofs.Opening.{parts}
use Rattle.dayfile.proofs.Ordering.{exact_structure}
use Rattle.dayfile.proofs.file.DayFile.open.Goals as goal

pub returns-then-from-parties-clause-exact : goal.returns-then-from-parties-clause-exact
returns-then-from-parties-clause-exact c = exact_structure c.args.bytes.now c.args.parties (grind (arith, parts))

pub returns-clause-exact : goal.returns-clause-exact
returns-clause-exact c = exact_structure c.args.bytes.now c.args.parties (grind (arith, parts))
