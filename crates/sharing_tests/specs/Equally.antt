-- Lemmas on a fund in equal parts.
use Rattle.std.specs.Prelude.{◌≡◌, ℕ, zero, suc, ◌+◌, ◌*◌, ◌/◌, ◌%◌, ◌<◌, ◌≤◌, min, cond, List, map, length, sum, nat_lt, slice_index}
use Rattle.std.proofs.Common.{ap, subst, ⊎_elim, arith, add-one, div-add-mod', mod-lt, add-mul, mul-add}
use Rattle.std.specs.List.{range_with_len}
use Rattle.std.proofs.lemmas.Bool.{cases_lt, lt-ltb, le-ltb, cond-true, cond-false}
use Rattle.std.proofs.lemmas.List.{length-replicate, get_or-replicate}
use Rattle.std.proofs.lemmas.List.FromFn.{sum_by-map-range_with_len_more, length-map-range_with_len, get_or-map-range_with_len}
use Rattle.sharing.specs.Counting.{sum_ones}
use Rattle.sharing_tests.specs.EqualShares.{one_each, equal_share, equal_shares}

-- the parties count 1 each
pub ones_length : (given : List ℕ) → length (one_each given) ≡ length given
unfolding one_each
ones_length given = length-replicate (length given) 1

pub ones_sum : (given : List ℕ) → sum (one_each given) ≡ length given
unfolding one_each
ones_sum given = sum_ones (length given)

pub ones_at : (given : List ℕ) (p : ℕ) → p < length given → slice_index (one_each given) p ≡ 1
unfolding one_each
ones_at given p l = get_or-replicate (length given) p 1 0 l

-- a fen more for the first parties
pub extra_first : (p r : ℕ) → p < r → ◌≡◌ {A = ℕ} (cond (nat_lt p r) 1 0) 1
extra_first p r l = cond-true (nat_lt p r) 1 0 (lt-ltb p r l)

pub extra_later : (p r : ℕ) → r ≤ p → ◌≡◌ {A = ℕ} (cond (nat_lt p r) 1 0) 0
extra_later p r l = cond-false (nat_lt p r) 1 0 (le-ltb p r l)

-- k parties have the same each, and the first r of them one fen more
first_parties : (q r k : ℕ) → sum (map (λ p. q + cond (nat_lt p r) 1 0) (range_with_len 0 k)) ≡ q * k + min k r
first_parties q r zero = omega arith
first_parties q r (suc k) =
    let ih = first_parties q r k in
    let more = sum_by-map-range_with_len_more (λ (x : ℕ). x) (λ p. q + cond (nat_lt p r) 1 0) 0 k k (omega arith) in
    let one = mul-add q k 1 in
    let P : ℕ → Type 0 = λ n. sum (map (λ p. q + cond (nat_lt p r) 1 0) (range_with_len 0 n)) ≡ q * n + min n r in
    subst P (add-one k)
    (⊎_elim (λ l. omega (arith, extra_first k r l)) (λ l. omega (arith, extra_later k r l)) (cases_lt k r))

pub equal_length : (given : List ℕ) (fund : ℕ) → length (equal_shares given fund) ≡ length given
unfolding equal_shares
equal_length given fund = length-map-range_with_len (equal_share (length given) fund) 0 (length given)

pub equal_adds : (given : List ℕ) (fund : ℕ) → 0 < length given → sum (equal_shares given fund) ≡ fund
unfolding equal_shares
equal_adds given fund h =
    let n : ℕ = length given in
    omega (arith, first_parties (fund / n) (fund % n) n, div-add-mod' fund n, mod-lt fund h)

pub equal_at : (given : List ℕ) (fund p : ℕ) → p < length given → slice_index (equal_shares given fund) p ≡ equal_share (length given) fund p
unfolding equal_shares
equal_at given fund p l = get_or-map-range_with_len (equal_share (length given) fund) 0 (length given) p p 0 l (omega arith)

-- a share times the number of parties is near the fund
near_fund : (n fund p : ℕ) → 0 < n → (equal_share n fund p * n < fund + n) × (fund < equal_share n fund p * n + n)
near_fund n fund p h =
    let whole = div-add-mod' fund n in
    let rest = mod-lt fund h in
    let parts = add-mul (fund / n) (cond (nat_lt p (fund % n)) 1 0) n in
    ⊎_elim
    (λ l. let e = ap (λ z. z * n) (extra_first p (fund % n) l) in (omega arith, omega arith))
    (λ l. let e = ap (λ z. z * n) (extra_later p (fund % n) l) in (omega arith, omega arith))
    (cases_lt p (fund % n))

pub equal_near : (given : List ℕ) (fund p : ℕ) → p < length given →
    (slice_index (equal_shares given fund) p * sum (one_each given) < fund * slice_index (one_each given) p + sum (one_each given))
    × (fund * slice_index (one_each given) p < slice_index (equal_shares given fund) p * sum (one_each given) + sum (one_each given))
equal_near given fund p l =
    let near = near_fund (length given) fund p (omega arith) in
    rw (equal_at given fund p l, ones_sum given, ones_at given p l) (omega arith, omega arith)

-- what a party gets, by its number
pub share_first : (given : List ℕ) (fund p : ℕ) → p < length given → p < fund % length given → fund / length given + 1 ≡ slice_index (equal_shares given fund) p
share_first given fund p l early = omega (arith, equal_at given fund p l, extra_first p (fund % length given) early)

pub share_later : (given : List ℕ) (fund p : ℕ) → p < length given → fund % length given ≤ p → fund / length given ≡ slice_index (equal_shares given fund) p
share_later given fund p l late = omega (arith, equal_at given fund p l, extra_later p (fund % length given) late)
