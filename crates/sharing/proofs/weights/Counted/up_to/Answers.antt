use Rattle.std.proofs.Common.{ℕ, List, take, sum, sym, ap, ◌∙◌, rules, arith}
use Rattle.std.proofs.lemmas.List.{take-map}
use Rattle.std.proofs.lemmas.Iterator.{YieldsList-from_slice, YieldsList-from_map}
use Rattle.std.proofs.lemmas.Iterator.Consumers.{YieldsList-at, sum_from_yields_List, fits_from_yields_list}
use borrow.Author.Tests.{tests}
use Rattle.sharing.specs.AsGiven.{counts_as}
use Rattle.sharing.proofs.Totals.{front_small}
use Rattle.sharing.proofs.weights.Counted.up_to.Goals as goal

pub sum-requires-clause-fits : goal.sum-requires-clause-fits
sum-requires-clause-fits c =
    let ws : List ℕ = c.self.inside.weights.now in
    let small = front_small c.self.inside.counting ws c.args.n c.self.invariant.0 in
    fits_from_yields_list c.map.result _
    (YieldsList-from_map _ (counts_as c.self.inside.counting) (YieldsList-at c.map.ensures.source (YieldsList-from_slice (take c.args.n ws) c.iter.ensures.rest)) c.map.ensures.closure
    (λ x r q k. search (rules, tests)))
    (rw (← take-map (counts_as c.self.inside.counting) c.args.n ws) (omega arith))

pub returns : goal.returns
returns c =
    let counts = counts_as c.self.inside.counting in
    let ws : List ℕ = c.self.inside.weights.now in
    sum_from_yields_List c.map.result _ c.sum.ensures.ran
    (YieldsList-from_map _ counts (YieldsList-at c.map.ensures.source (YieldsList-from_slice (take c.args.n ws) c.iter.ensures.rest)) c.map.ensures.closure (λ x r q k. search (rules, tests)))
    ∙ ap sum (sym (take-map counts c.args.n ws) ∙ ap (take c.args.n) c.self.view_is)
