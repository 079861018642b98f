-- What a set of sides holds: one side for each party, party 0 first.
use Rattle.std.specs.Prelude.{List, take}
use Rattle.market.specs.declared.kinds.Side.{Side}
use Rattle.market.specs.declared.kinds.Sides.{Sides}

abbrev pub sides_in : Sides → List Side
sides_in s = take s.count s.slots
