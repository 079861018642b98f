use Rattle.std.proofs.Common.{◌<◌, ◌≤◌, None, rules, arith}
use Rattle.std.proofs.lemmas.Grind.{common_steps}
use Rattle.std.proofs.lemmas.Iterator.{YieldsList-from_slice, IsFirst-from_position}
use borrow.Author.Tests.{tests}
use Rattle.sharing.specs.Limits.{most_weight}
use Rattle.sharing.proofs.Dividing.{too_heavy, weighable}
use Rattle.sharing.proofs.weights.Given.new.Goals as goal

pub returns-in-Some-clause-refusal : goal.returns-in-Some-clause-refusal
returns-in-Some-clause-refusal c =
    let h = IsFirst-from_position _ _ _ (λ w. most_weight < w) (λ w. w ≤ most_weight) c.in-Some.ensures.ran (YieldsList-from_slice c.args.weights.now cc) (λ x q k. search (rules, tests)) (λ x q k. search (rules, tests)) in
    too_heavy c.args.weights.now c.in-Some.party (grind (arith, common_steps)) (grind (arith, common_steps)) h.0 (h.1 0) (λ k l. h.2 k 0 (omega arith) l)

pub returns-in-None-clause-refusal : goal.returns-in-None-clause-refusal
returns-in-None-clause-refusal c =
    let h = IsFirst-from_position _ _ _ (λ w. most_weight < w) (λ w. w ≤ most_weight) c.in-None.ensures.ran (YieldsList-from_slice c.args.weights.now cc) (λ x q k. search (rules, tests)) (λ x q k. search (rules, tests)) in
    weighable c.args.weights.now None (record { some = grind (arith, common_steps); few = grind (arith, common_steps); small = λ k l. h k 0 (omega arith) l })
