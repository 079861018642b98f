-- What one of two rules answers: what the one that it is answers.
use Rattle.market.specs.declared.either.Either.{Either}
use Rattle.market.specs.declared.either.Either.TheVariants.{First, Second}

abbrev pub chosen : {A B Answer : Type 0} → (A → Answer) → (B → Answer) → Either A B → Answer
chosen f g (First a) = f a
chosen f g (Second b) = g b
