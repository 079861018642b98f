-- Items that are checked one after the other.
use Rattle.std.specs.Prelude.{◌≡◌, ℕ, ◌<◌, Bool, List, Result}
use Rattle.std.specs.Result.{result_err}
use Rattle.faults.specs.declared.causes.RecordFault.{RecordFault}
use Rattle.faults.specs.Rows.{first}

-- each answer to an item below n is the first of the item's rows that holds
abbrev pub AnswerRows : (ℕ → Result (Unit {0}) RecordFault → Type 0) → ℕ → (ℕ → List (RecordFault × Bool)) → Type 0
AnswerRows gives n rows = (item : ℕ) (answer : Result (Unit {0}) RecordFault) → item < n → gives item answer → result_err answer ≡ first (rows item)
