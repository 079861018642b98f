-- A side in words.
use Rattle.std.specs.Prelude.{ℕ, List, codes}
use Rattle.market.specs.declared.kinds.Side.{Side}
use Rattle.market.specs.declared.kinds.Side.TheVariants.{Seller, Buyer}

abbrev pub side_words : Side → List ℕ
side_words Seller = codes "seller"
side_words Buyer = codes "buyer"
