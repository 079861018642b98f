-- Why a fund is not shared, in words.
use Rattle.std.specs.Prelude.{ℕ, List, ◌++◌, codes, decimal}
use Rattle.sharing.specs.declared.division.Unshareable.{Unshareable}
use Rattle.sharing.specs.declared.division.Unshareable.TheVariants.{PartyCount, Weight, Product}

abbrev pub unshareable_words : Unshareable → List ℕ
unshareable_words PartyCount = codes "not 1 to 64 parties"
unshareable_words (Weight party) = codes "the weight of party " ++ (decimal party ++ codes " is not within 0 to 2976000000")
unshareable_words Product = codes "the fund's size times the total of the counted weights is above 9000000000000000000"
