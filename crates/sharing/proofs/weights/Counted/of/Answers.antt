use Rattle.std.proofs.Common.{sum, ap, arith}
use Rattle.sharing.specs.Counting.{as_given_sum}
use Rattle.sharing.proofs.weights.Counted.of.Goals as goal

pub invariant_of-result : goal.invariant_of-result
invariant_of-result c = (c.given.invariant, omega (arith, ap sum c.of.ensures, as_given_sum c.given.inside.weights.now c.given.invariant.some))
