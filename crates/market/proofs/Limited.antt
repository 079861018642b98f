-- A number that is not outside its limits lies between them.
use Rattle.std.proofs.Common.{◌≡◌, false, ℤ, arith}
use Rattle.std.proofs.lemmas.Int.{ints}
use Rattle.std.proofs.lemmas.Bool.{or_parts}
use Rattle.market.specs.Limits.{outside, Between}

pub inside : (low high z : ℤ) → outside low high z ≡ false → Between low high z
inside low high z e = grind (arith, ints, or_parts)
