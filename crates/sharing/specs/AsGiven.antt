-- Weights that count as given, and 1 each where all are 0.
use Rattle.std.specs.Prelude.{ℕ, cond, List, length, replicate, sum, ◌==◌}
use Rattle.sharing.specs.declared.weights.Counting.{Counting}
use Rattle.sharing.specs.declared.weights.Counting.TheVariants.{AsGiven, OneEach}

unfoldable pub as_given : List ℕ → List ℕ
as_given given = cond (sum given == 0) (replicate (length given) 1) given

-- what a given weight counts
abbrev pub counts_as : Counting → ℕ → ℕ
counts_as AsGiven weight = weight
counts_as OneEach weight = 1
