-- Lemmas on shares by running weight.
use Rattle.std.specs.Prelude.{◌≡◌, ℕ, zero, suc, ◌+◌, ◌-◌, ◌*◌, ◌/◌, ◌<◌, ◌≤◌, List, map, length, take, sum, slice_index}
use Rattle.std.proofs.Common.{sym, ap, ◌∙◌, subst, arith, add-one, div-add-mod', mod-lt, mul-add, add-mul, mul-zero, mul-div_cancel}
use Rattle.std.proofs.Math.Nat.{div-eq_of_lt}
use Rattle.std.specs.List.{range_with_len}
use Rattle.std.proofs.lemmas.List.{take_all}
use Rattle.std.proofs.lemmas.List.Sums.{sum_by_more}
use Rattle.std.proofs.lemmas.List.FromFn.{sum_by-map-range_with_len_more, length-map-range_with_len, get_or-map-range_with_len}
use Rattle.sharing.specs.RunningShares.{up_to, running_share, running_shares}
use Rattle.sharing.specs.Counting.{div_mono}

-- what is added step by step to a number that never falls
pub telescopes : (q : ℕ → ℕ) (m : ℕ) → ((k : ℕ) → k < m → q k ≤ q (k + 1)) → (n : ℕ) → n ≤ m →
    q 0 + sum (map (λ p. q (p + 1) - q p) (range_with_len 0 n)) ≡ q n
telescopes q m up zero h = omega arith
telescopes q m up (suc n) h =
    let ih = telescopes q m up n (omega arith) in
    let u = up n h in
    let more = sum_by-map-range_with_len_more (λ (x : ℕ). x) (λ p. q (p + 1) - q p) 0 n n (omega arith) in
    let P : ℕ → Type 0 = λ k. q 0 + sum (map (λ p. q (p + 1) - q p) (range_with_len 0 k)) ≡ q k in
    subst P (add-one n) (omega arith)

up_to_more : (ws : List ℕ) (fund p : ℕ) → p < length ws → fund * sum (take (p + 1) ws) ≡ fund * sum (take p ws) + fund * slice_index ws p
up_to_more ws fund p h = ap (λ z. fund * z) (sum_by_more (λ (x : ℕ). x) ws p 0 h) ∙ mul-add fund (sum (take p ws)) (slice_index ws p)

pub up_to_rises : (ws : List ℕ) (fund : ℕ) → 0 < sum ws → (p : ℕ) → p < length ws → up_to ws fund p ≤ up_to ws fund (p + 1)
up_to_rises ws fund h p l = div_mono _ _ (sum ws) h (omega (arith, up_to_more ws fund p l))

pub running_adds : (ws : List ℕ) (fund : ℕ) → 0 < sum ws → sum (running_shares ws fund) ≡ fund
unfolding running_shares
running_adds ws fund h =
    let t = telescopes (up_to ws fund) (length ws) (up_to_rises ws fund h) (length ws) (omega arith) in
    let none : up_to ws fund 0 ≡ 0 = ap (λ z. z / sum ws) (mul-zero fund) ∙ div-eq_of_lt h in
    let all : up_to ws fund (length ws) ≡ fund = ap (λ (l : List ℕ). fund * sum l / sum ws) (take_all (length ws) ws (omega arith)) ∙ mul-div_cancel fund h in
    omega (arith, t, none, all)

pub running_length : (ws : List ℕ) (fund : ℕ) → length (running_shares ws fund) ≡ length ws
unfolding running_shares
running_length ws fund = length-map-range_with_len (running_share ws fund) 0 (length ws)

pub running_at : (ws : List ℕ) (fund p : ℕ) → p < length ws → slice_index (running_shares ws fund) p ≡ running_share ws fund p
unfolding running_shares
running_at ws fund p h = get_or-map-range_with_len (running_share ws fund) 0 (length ws) p p 0 h (omega arith)

-- the difference of two quotients, times the divisor, is near the difference
near_steps : (t a b d : ℕ) → 0 < t → b ≡ a + d → ((b / t - a / t) * t < d + t) × (d < (b / t - a / t) * t + t)
near_steps t a b d h e =
    let ea = div-add-mod' a t in
    let eb = div-add-mod' b t in
    let la = mod-lt a h in
    let lb = mod-lt b h in
    let le = div_mono a b t h (omega arith) in
    let q : b / t ≡ a / t + (b / t - a / t) = omega arith in
    let c = ap (λ z. z * t) q ∙ add-mul (a / t) (b / t - a / t) t in
    (omega arith, omega arith)

pub running_near : (ws : List ℕ) (fund p : ℕ) → 0 < sum ws → p < length ws →
    (slice_index (running_shares ws fund) p * sum ws < fund * slice_index ws p + sum ws) × (fund * slice_index ws p < slice_index (running_shares ws fund) p * sum ws + sum ws)
running_near ws fund p h l =
    let e = running_at ws fund p l in
    rw e (near_steps (sum ws) (fund * sum (take p ws)) (fund * sum (take (p + 1) ws)) (fund * slice_index ws p) h (up_to_more ws fund p l))

-- what the code computes, step by step
module _ (ws : List ℕ) (fund p a b t : ℕ) (l : p < length ws) (ea : a ≡ sum (take p ws)) (eb : b ≡ sum (take (p + 1) ws)) (et : t ≡ sum ws) where
  pub running_code : fund * b / t - fund * a / t ≡ slice_index (running_shares ws fund) p
  running_code = rw (ea, eb, et) (sym (running_at ws fund p l))

  pub running_ordered : 0 < t → fund * a / t ≤ fund * b / t
  running_ordered h = rw (ea, eb, et) (up_to_rises ws fund (omega arith) p l)
