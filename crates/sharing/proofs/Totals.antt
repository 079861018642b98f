-- Lemmas on the totals of counted weights.
use Rattle.std.proofs.Common.{◌≡◌, ℕ, ◌*◌, ◌<◌, ◌≤◌, max, List, map, length, get_or, take, sum, sym, refl, arith}
use Rattle.std.specs.List.{range_with_len}
use Rattle.std.proofs.lemmas.List.{get_or-map, length-map}
use Rattle.std.proofs.lemmas.List.Elements.{All-from_get_or}
use Rattle.std.proofs.lemmas.List.FromFn.{fill_by_all}
use Rattle.std.proofs.lemmas.List.Sums.{sum_by-le, sum_by-take-le}
use Rattle.sharing.specs.AsGiven.{counts_as}
use Rattle.sharing.specs.Limits.{Weights, most_parties, most_weight}
use Rattle.sharing.specs.declared.weights.Counting.{Counting}
use Rattle.sharing.specs.declared.weights.Counting.TheVariants.{AsGiven, OneEach}

-- where no weight counts more than it is, but a weight of 0 may count 1
pub total_small : (given counted : List ℕ) → Weights given → length counted ≡ length given → ((p : ℕ) → p < length given → get_or counted p 0 ≤ max 1 (get_or given p 0))
    → sum counted ≤ most_parties * most_weight
total_small given counted weights long modest =
    let small = sum_by-le (λ (x : ℕ). x) most_weight counted
    (All-from_get_or (λ w. w ≤ most_weight) counted 0 (λ p l. omega (arith, modest p (omega arith), weights.small p (omega arith)))) in
    omega (arith, weights.few)

counts_modest : (c : Counting) (w : ℕ) → counts_as c w ≤ max 1 w
counts_modest AsGiven w = omega arith
counts_modest OneEach w = omega arith

pub front_small : (c : Counting) (given : List ℕ) (n : ℕ) → Weights given → sum (take n (map (counts_as c) given)) ≤ most_parties * most_weight
front_small c given n weights =
    let counted : List ℕ = map (counts_as c) given in
    let small = total_small given counted weights (length-map given (counts_as c)) (λ p l. rw (get_or-map (counts_as c) given p 0 0 l) (counts_modest c (get_or given p 0))) in
    omega (arith, sum_by-take-le (λ (x : ℕ). x) counted n)

-- the weights, party by party
pub by_party : (counted : List ℕ) (n : ℕ) → length counted ≡ n → map (λ p. get_or counted p 0) (range_with_len 0 n) ≡ counted
by_party counted n long = sym (fill_by_all (λ p. get_or counted p 0) counted n 0 long (λ k l. refl))
