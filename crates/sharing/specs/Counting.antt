-- Lemmas on weights that count as given, and 1 each where all are 0.
use Rattle.std.specs.Prelude.{◌≡◌, ℕ, ◌+◌, ◌-◌, ◌*◌, ◌/◌, ◌<◌, ◌≤◌, max, List, [], ◌∷◌, map, length, take, replicate, sum, ◌==◌, ◌≢◌, slice_index, refl}
use Rattle.std.proofs.Common.{sym, ap, ◌∙◌, ⊎_elim, arith, div-mul-le_self, mul-le-mul_left}
use Rattle.std.proofs.lemmas.Bool.{cases_eq, eq-eqb, ne_eqb, cond-true, cond-false}
use Rattle.std.proofs.lemmas.List.{length-map, length-replicate, length-take, get_or-map, get_or-replicate, get_or-take, map-id, take_all}
use Rattle.std.proofs.lemmas.List.Sums.{sum_by_more, sum_by-take-le, get_or-le-sum_by}
use Rattle.std.proofs.lemmas.List.Folds.{sum_by-replicate}
use Rattle.std.proofs.lemmas.Nat.{le-div}
use Rattle.sharing.specs.AsGiven.{as_given, counts_as}
use Rattle.sharing.specs.Limits.{Weights, most_weight, most_product}
use Rattle.sharing.specs.declared.weights.Counting.{Counting}
use Rattle.sharing.specs.declared.weights.Counting.TheVariants.{AsGiven, OneEach}

pub as_given_none : (given : List ℕ) → sum given ≡ 0 → as_given given ≡ replicate (length given) 1
unfolding as_given
as_given_none given e = cond-true (sum given == 0) (replicate (length given) 1) given (eq-eqb _ _ e)

pub as_given_some : (given : List ℕ) → (sum given ≢ 0) → as_given given ≡ given
unfolding as_given
as_given_some given e = cond-false (sum given == 0) (replicate (length given) 1) given (ne_eqb _ _ e)

pub sum_ones : (n : ℕ) → sum (replicate n 1) ≡ n
sum_ones n = omega (arith, sum_by-replicate (λ (x : ℕ). x) n 1)

pub as_given_length : (given : List ℕ) → length (as_given given) ≡ length given
as_given_length given =
    ⊎_elim (λ e. ap length (as_given_none given e) ∙ length-replicate (length given) 1) (λ e. ap length (as_given_some given e)) (cases_eq (sum given) 0)

pub as_given_sum : (given : List ℕ) → 0 < length given → 0 < sum (as_given given)
as_given_sum given h =
    ⊎_elim
    (λ e. let s = ap sum (as_given_none given e) ∙ sum_ones (length given) in omega arith)
    (λ e. let s = ap sum (as_given_some given e) in omega arith)
    (cases_eq (sum given) 0)

pub as_given_modest : (given : List ℕ) (p : ℕ) → p < length given → slice_index (as_given given) p ≤ max 1 (slice_index given p)
as_given_modest given p h =
    ⊎_elim
    (λ e. let s = ap (λ (l : List ℕ). slice_index l p) (as_given_none given e) ∙ get_or-replicate (length given) p 1 0 h in omega arith)
    (λ e. let s = ap (λ (l : List ℕ). slice_index l p) (as_given_some given e) in omega arith)
    (cases_eq (sum given) 0)

-- how weights count: as given where one is above 0, else 1 each
pub counts_given : (given : List ℕ) (p : ℕ) → p < length given → (slice_index given p ≢ 0) → map (counts_as AsGiven) given ≡ as_given given
counts_given given p l ne =
    map-id given ∙ sym (as_given_some given (λ e. ne (omega (arith, get_or-le-sum_by (λ (x : ℕ). x) given p 0 l))))

pub ones : (given : List ℕ) → map (counts_as OneEach) given ≡ replicate (length given) 1
ones [] = refl
ones (w ∷ given) = ap (λ xs. 1 ∷ xs) (ones given)

pub counts_ones : (given : List ℕ) (n : ℕ) → length given ≤ n → sum (take n given) ≡ 0 → map (counts_as OneEach) given ≡ as_given given
counts_ones given n l e = ones given ∙ sym (as_given_none given (sym (ap sum (take_all n given l)) ∙ e))

pub counted_at : (c : Counting) (given : List ℕ) (p : ℕ) → p < length given → map (counts_as c) given ≡ as_given given → counts_as c (slice_index given p) ≡ slice_index (as_given given) p
counted_at c given p l e = sym (get_or-map (counts_as c) given p 0 0 l) ∙ ap (λ (xs : List ℕ). slice_index xs p) e

pub counted_front : (c : Counting) (given : List ℕ) (n : ℕ) {total : ℕ} → total ≡ sum (take n (map (counts_as c) given)) → map (counts_as c) given ≡ as_given given
    → total ≡ sum (take n (as_given given))
counted_front c given n e counts = e ∙ ap (λ (ws : List ℕ). sum (take n ws)) counts

-- a weight within the limits counts within them
pub counts_small : (c : Counting) (w : ℕ) → w ≤ most_weight → counts_as c w ≤ most_weight
counts_small AsGiven w h = h
counts_small OneEach w h = omega arith

-- one weight more
pub count_more : (c : Counting) (given : List ℕ) (p total w : ℕ) → Weights given → p < length given → total ≡ sum (take p (map (counts_as c) given)) → total ≤ most_weight * p
    → w ≡ counts_as c (slice_index given p) → (total + w ≡ sum (take (p + 1) (map (counts_as c) given))) × (total + w ≤ most_weight * (p + 1))
count_more c given p total w weights l e small at =
    let m = sum_by_more (λ (x : ℕ). x) (map (counts_as c) given) p 0 (omega (arith, length-map given (counts_as c))) in
    let g = get_or-map (counts_as c) given p 0 0 l in
    let s = counts_small c (slice_index given p) (weights.small p l) in
    (omega arith, omega arith)

-- among the first n weights
pub count_front : (c : Counting) (given : List ℕ) (n p total w : ℕ) → Weights given → n ≤ length given → p < length (take (n - 0) given)
    → total ≡ sum (take p (map (counts_as c) given)) → total ≤ most_weight * p → w ≡ counts_as c (slice_index (take (n - 0) given) p)
    → (total + w ≡ sum (take (p + 1) (map (counts_as c) given))) × (total + w ≤ most_weight * (p + 1)) × (p + 1 ≤ n)
count_front c given n p total w weights within l e small at =
    let long = length-take (n - 0) given in
    let m = count_more c given p total w weights (omega arith) e small (at ∙ ap (counts_as c) (get_or-take (n - 0) given p 0 (omega arith))) in
    (m.0, m.1, omega arith)

-- the part of the first n weights is within the limit of the whole
pub front_product : (ws : List ℕ) (fund n a : ℕ) → a ≡ sum (take n ws) → fund * sum ws ≤ most_product → fund * a ≤ most_product
front_product ws fund n a e h =
    let m = mul-le-mul_left fund (sum_by-take-le (λ (x : ℕ). x) ws n) in
    rw e (omega arith)

pub div_mono : (a b t : ℕ) → 0 < t → a ≤ b → a / t ≤ b / t
div_mono a b t h le = le-div (a / t) b t h (omega (arith, div-mul-le_self a t))
