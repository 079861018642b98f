use Rattle.std.proofs.Common.{◌≡◌, ℕ, suc, ◌<◌, ◌≢◌, List, [], ◌∷◌, length, sum, slice_index, refl, sym, ◌∙◌, rules, arith}
use Rattle.std.proofs.lemmas.List.Sums.{sum_by-cons}
use Rattle.std.proofs.lemmas.Iterator.{YieldsList-from_slice, IsFirst-from_position}
use borrow.Author.Tests.{tests}
use Rattle.sharing.specs.Counting.{counts_given, ones, as_given_none}
use Rattle.sharing.proofs.weights.Counting.of.Goals as goal

-- weights that are all 0 add up to 0
none : (weights : List ℕ) → ((party : ℕ) → party < length weights → slice_index weights party ≡ 0) → sum weights ≡ 0
none [] zero = refl
none (w ∷ weights) zero = omega (arith, sum_by-cons (λ (x : ℕ). x) w weights, zero 0 (omega arith), none weights (λ party l. zero (suc party) (omega arith)))

pub returns-in-Some : goal.returns-in-Some
returns-in-Some c =
    let first = IsFirst-from_position _ _ _ (λ w. w ≢ 0) (λ w. w ≡ 0) c.in-Some.ensures.ran (YieldsList-from_slice c.args.weights.now cc) (λ x q k. search (rules, tests)) (λ x q k. search (rules, tests)) in
    counts_given c.args.weights.now c.in-Some.field-0 first.0 (first.1 0)

pub returns-in-None : goal.returns-in-None
returns-in-None c =
    let zero = IsFirst-from_position _ _ _ (λ w. w ≢ 0) (λ w. w ≡ 0) c.in-None.ensures.ran (YieldsList-from_slice c.args.weights.now cc) (λ x q k. search (rules, tests)) (λ x q k. search (rules, tests)) in
    ones c.args.weights.now ∙ sym (as_given_none c.args.weights.now (none c.args.weights.now (λ party l. zero party 0 (omega arith) l)))
