use Rattle.std.proofs.Common.{◌≡◌, ℕ, List, length, get_or, sum, sym, ap, ◌∙◌, subst, rules, arith}
use Rattle.std.proofs.lemmas.Iterator.{YieldsList-from_range, YieldsList-from_map}
use Rattle.std.proofs.lemmas.Iterator.Consumers.{YieldsList-at, sum_from_yields_List, fits_from_yields_list}
use borrow.Author.Tests.{tests}
use Rattle.sharing.specs.Limits.{Weights}
use Rattle.sharing.proofs.Totals.{total_small, by_party}
use Rattle.sharing.proofs.division.counted_total.Given as given
use Rattle.sharing.proofs.division.counted_total.Goals as goal

fit : (g : given.Over) (c : goal.After-map g) → Weights c.args.given.now
fit g c = subst Weights c.given.view_is c.given.invariant

pub sum-requires-clause-fits : goal.sum-requires-clause-fits
sum-requires-clause-fits g c =
    let n : ℕ = length c.given.inside.weights.now in
    let counted : List ℕ = g.R.SharingRule.counted c.args.rule.now c.args.given.now in
    let law = g.met.R.SharingRule in
    let long = law.aligned c.args.rule.now c.args.given.now (fit g c) in
    let small = total_small c.args.given.now counted (fit g c) long (λ p l. law.modest c.args.rule.now c.args.given.now p (fit g c) l) in
    fits_from_yields_list c.map.result _
    (YieldsList-from_map _ (λ p. get_or counted p 0) (YieldsList-at c.map.ensures.source (YieldsList-from_range 0 n n (cc) (omega arith))) c.map.ensures.closure (λ x r q k. search (rules, tests)))
    (rw (by_party counted n (long ∙ sym (ap length c.given.view_is))) (omega arith))

pub returns : goal.returns
returns g c =
    let n : ℕ = length c.given.inside.weights.now in
    let counted : List ℕ = g.R.SharingRule.counted c.args.rule.now c.args.given.now in
    let law = g.met.R.SharingRule in
    let weights : Weights c.args.given.now = subst Weights c.given.view_is c.given.invariant in
    let long = law.aligned c.args.rule.now c.args.given.now weights ∙ sym (ap length c.given.view_is) in
    let value : c.sum.result ≡ sum counted =
    sum_from_yields_List c.map.result _ c.sum.ensures.ran
    (YieldsList-from_map _ (λ p. get_or counted p 0) (YieldsList-at c.map.ensures.source (YieldsList-from_range 0 n n (cc) (omega arith))) c.map.ensures.closure (λ x r q k. search (rules, tests)))
    ∙ ap sum (by_party counted n long) in
    record { value = value; some = omega (arith, law.weighs c.args.rule.now c.args.given.now weights); weights = weights }
