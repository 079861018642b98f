use Rattle.std.proofs.Common.{◌≡◌, ℕ, Bool, List, None}
use Rattle.faults.specs.Rows.{first, rows_below}
use Rattle.faults.specs.declared.causes.RecordFault.{RecordFault}
use Rattle.dayfile.specs.Scans.{AnswerRows}
use Rattle.dayfile.proofs.scans.scan.Given as goal

-- no item so far is at fault
abbrev pub invariant-loop-item : goal.invariant-loop-item
invariant-loop-item g l = (rows : ℕ → List (RecordFault × Bool)) → AnswerRows (λ item answer. goal.F-post g l.check item answer) l.items rows → first (rows_below rows l.item) ≡ None
