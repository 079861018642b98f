-- Lemmas on parts rounded down and the fen that are left over.
use Rattle.std.specs.Prelude.{◌≡◌, ℕ, zero, suc, ◌+◌, ◌-◌, ◌*◌, ◌/◌, ◌%◌, ◌<◌, ◌≤◌, Bool, true, false, cond, ltb, ◌⊎◌, List, [], ◌∷◌, map, length, take, sum, count_by, ◌≢◌, nat_lt, slice_index, slice_index_or, slice_set, refl}
use Rattle.std.proofs.Math.Path.{sym, ap}
use Rattle.std.proofs.Common.{◌∙◌, subst, inl, inr, ⊎_elim, add-one, div-add-mod', mod-lt, mul-add, mul-le-mul_left, mul-zero, zero-mul}
use native.Mathlib.Omega.{arith}
use Rattle.std.proofs.Math.Nat.{add-mul, le_of_mul-le-mul_right}
use Rattle.std.specs.List.{prefix_len, IsFirstMaxByKey}
use Rattle.std.proofs.lemmas.Bool.{cases_eq, cases_lt, lt-ltb, le-ltb, ltb-true, ltb-false, cond-true, cond-false}
use Rattle.std.proofs.lemmas.List.{length-set, length-map, get_or-map, get_or-set_same, get_or-set_other}
use Rattle.std.proofs.lemmas.List.Sums.{sum_by-cons, sum_by-set, sum_by_more, sum_by-take-le, get_or-le-sum_by, prefix_len_passes, prefix_len_stops}
use Rattle.std.proofs.lemmas.List.Recursion.{max_least}
use Rattle.sharing.specs.LargestRemainders.{floors, remainders, largest, first_largest, hand_out, largest_remainder_shares, Ahead, ServedFirst}

-- how many numbers are above 0
abbrev pub positives : List ℕ → ℕ
positives rs = count_by (λ r. ltb 0 r) rs

positives_none : (r : ℕ) (rs : List ℕ) → r ≡ 0 → positives (r ∷ rs) ≡ positives rs
positives_none r rs e =
    let s = sum_by-cons (λ x. cond (nat_lt 0 x) 1 0) r rs in
    let z = cond-false {A = ℕ} (nat_lt 0 r) 1 0 (le-ltb 0 r (omega arith)) in
    omega arith

positives_one : (r : ℕ) (rs : List ℕ) → 0 < r → positives (r ∷ rs) ≡ 1 + positives rs
positives_one r rs e =
    let s = sum_by-cons (λ x. cond (nat_lt 0 x) 1 0) r rs in
    let z = cond-true {A = ℕ} (nat_lt 0 r) 1 0 (lt-ltb 0 r e) in
    omega arith

-- the largest of a list that has a number above 0 is above 0
pub largest_positive : (rs : List ℕ) → 0 < positives rs → 0 < largest rs
unfolding largest
largest_positive [] h = absurd (omega arith)
largest_positive (r ∷ rs) h =
    ⊎_elim
    (λ lt. omega arith)
    (λ le. let p = largest_positive rs (omega (arith, positives_none r rs (omega arith))) in omega arith)
    (cases_lt 0 r)

-- no number is above the largest, and the largest is not above what no number is above
pub get_or_le_largest : (rs : List ℕ) (k : ℕ) → slice_index rs k ≤ largest rs
unfolding largest
get_or_le_largest [] k = omega arith
get_or_le_largest (r ∷ rs) zero = omega arith
get_or_le_largest (r ∷ rs) (suc k) = omega (arith, get_or_le_largest rs k)

pub largest_least : (m : ℕ) (rs : List ℕ) → ((k : ℕ) → k < length rs → slice_index rs k ≤ m) → largest rs ≤ m
unfolding largest
largest_least m rs h = max_least largest (λ x. x) refl (λ _ _. refl) rs 0 m h

-- the first number that is not below m, where the largest is not
pub reached : (m : ℕ) (rs : List ℕ) → 0 < m → m ≤ largest rs →
    (prefix_len (λ x. ltb x m) rs < length rs) × (m ≤ slice_index rs (prefix_len (λ x. ltb x m) rs))
reached m rs z h =
    ⊎_elim
    (λ l. (l, ltb-false _ _ (prefix_len_stops (λ x. ltb x m) rs 0 l)))
    (λ all. absurd (omega (arith, largest_least (m - 1) rs (λ k l. omega (arith, ltb-true _ _ (prefix_len_passes (λ x. ltb x m) rs k 0 (omega arith)))))))
    (cases_lt (prefix_len (λ x. ltb x m) rs) (length rs))

-- the first place that does not pass
leading_is : (p : ℕ → Bool) (rs : List ℕ) (b : ℕ) → b < length rs → ((k : ℕ) → k < b → p (slice_index rs k) ≡ true) → p (slice_index rs b) ≡ false → prefix_len p rs ≡ b
leading_is p [] b l before at = absurd (omega arith)
leading_is p (r ∷ rs) zero l before at = cond-false (p r) (1 + prefix_len p rs) 0 at
leading_is p (r ∷ rs) (suc b) l before at =
    cond-true (p r) (1 + prefix_len p rs) 0 (before 0 (omega arith))
    ∙ omega (arith, leading_is p rs b (omega arith) (λ k h. before (suc k) (omega arith)) at)

-- the best by a search is the first largest
pub best_first : (rs : List ℕ) (b : ℕ) → IsFirstMaxByKey (λ (x : ℕ). x) rs (length rs) b → first_largest rs ≡ b
unfolding first_largest
best_first rs b best =
    let most = largest_least (slice_index rs b) rs (λ k l. best.1 k 0 l) in
    leading_is (λ x. ltb x (largest rs)) rs b best.0
    (λ k l. lt-ltb _ _ (omega (arith, best.2 k 0 l, get_or_le_largest rs b)))
    (le-ltb _ _ most)

-- where a number is above 0, the first largest stands in the list and is above 0
pub first_largest_positive : (rs : List ℕ) → 0 < positives rs → (first_largest rs < length rs) × (0 < slice_index rs (first_largest rs))
unfolding first_largest
first_largest_positive rs h =
    let z = largest_positive rs h in
    let r = reached (largest rs) rs z (omega arith) in
    (r.0, omega (arith, r.1))

-- what stands before the first that does not pass, passes
leading_before : (p : ℕ → Bool) (rs : List ℕ) (k : ℕ) → k < prefix_len p rs → p (slice_index rs k) ≡ true
leading_before p rs k l = prefix_len_passes p rs k 0 l

-- no number is above the first largest, and those before it are below it
pub first_largest_best : (rs : List ℕ) → 0 < positives rs → (k : ℕ) →
    (slice_index rs k ≤ slice_index rs (first_largest rs)) × (k < first_largest rs → slice_index rs k < slice_index rs (first_largest rs))
unfolding first_largest
first_largest_best rs h k =
    let z = largest_positive rs h in
    let r = reached (largest rs) rs z (omega arith) in (
      omega (arith, r.1, get_or_le_largest rs k),
      λ l. omega (arith, r.1, ltb-true _ _ (leading_before (λ x. ltb x (largest rs)) rs k l)),
    )

-- what handing out n fen does
pub record Handed (n : ℕ) (rest shares out : List ℕ) : Type 0 where
  pub long : length out ≡ length shares
  pub adds : sum out ≡ sum shares + n
  pub each : (p : ℕ) → (slice_index out p ≡ slice_index shares p) ⊎ ((slice_index out p ≡ slice_index shares p + 1) × (0 < slice_index rest p))
  pub order : (p q : ℕ) → slice_index out p ≡ slice_index shares p + 1 → slice_index out q ≡ slice_index shares q → Ahead rest p q

-- one fen to party b
module _ (n : ℕ) (rest shares out : List ℕ) (b : ℕ) (l : b < length rest) (e : length shares ≡ length rest) (z : 0 < slice_index rest b)
    (best : (k : ℕ) → (slice_index rest k ≤ slice_index rest b) × (k < b → slice_index rest k < slice_index rest b))
    (after : Handed n (slice_set rest b 0) (slice_set shares b (slice_index shares b + 1)) out) where
  handed_other : (p : ℕ) → (p ≢ b) → (slice_index out p ≡ slice_index shares p) ⊎ ((slice_index out p ≡ slice_index shares p + 1) × (0 < slice_index rest p))
  handed_other p ne =
      let s = get_or-set_other shares b p (slice_index shares b + 1) 0 ne in
      let r = get_or-set_other rest b p 0 0 ne in
      ⊎_elim (λ k. inl (k ∙ s)) (λ k. inr (omega (arith, k.0), omega (arith, k.1))) (after.each p)

  handed_same : (slice_index out b ≡ slice_index shares b) ⊎ ((slice_index out b ≡ slice_index shares b + 1) × (0 < slice_index rest b))
  handed_same =
      let s = get_or-set_same shares b (slice_index shares b + 1) 0 (omega arith) in
      let r = get_or-set_same rest b 0 0 l in
      ⊎_elim (λ k. inr (k ∙ s, z)) (λ k. absurd (omega (arith, k.1))) (after.each b)

  -- b is served, and before any other
  b_served : slice_index_or out b 0 ≡ slice_index shares b → ⊥
  b_served k =
      let s = get_or-set_same shares b (slice_index shares b + 1) 0 (omega arith) in
      ⊎_elim (λ j. omega (arith, s, j)) (λ j. omega (arith, s, j.0)) (after.each b)

  b_before : (q : ℕ) → (q ≢ b) → Ahead rest b q
  b_before q ne =
      ⊎_elim (λ lt. inl ((best q).1 lt))
      (λ le. ⊎_elim (λ e. inr (e, omega arith)) (λ e. inl (omega (arith, (best q).0))) (cases_eq (slice_index rest q) (slice_index rest b)))
      (cases_lt q b)

  handed_order : (p q : ℕ) → slice_index out p ≡ slice_index shares p + 1 → slice_index out q ≡ slice_index shares q → Ahead rest p q
  handed_order p q ep eq =
      let nq : q ≡ b → ⊥ = λ k. b_served (subst (λ (j : ℕ). slice_index out j ≡ slice_index shares j) k eq) in
      ⊎_elim
      (λ k. subst (λ (j : ℕ). Ahead rest j q) (sym k) (b_before q nq))
      (λ np.
      let sp = get_or-set_other shares b p (slice_index shares b + 1) 0 np in
      let sq = get_or-set_other shares b q (slice_index shares b + 1) 0 nq in
      let rp = get_or-set_other rest b p 0 0 np in
      let rq = get_or-set_other rest b q 0 0 nq in
      ⊎_elim (λ j. inl (omega (arith, j))) (λ j. inr (omega (arith, j.0), j.1)) (after.order p q (omega arith) (eq ∙ sym sq)))
      (cases_eq p b)

  pub handed_more : Handed (suc n) rest shares out
  handed_more = record {
    long = after.long ∙ length-set shares b (slice_index shares b + 1);
    adds = omega (arith, after.adds, sum_by-set (λ (x : ℕ). x) shares b (slice_index shares b + 1) 0 (omega arith));
    each = λ p. ⊎_elim
        (λ k. subst (λ (q : ℕ). (slice_index out q ≡ slice_index shares q) ⊎ ((slice_index out q ≡ slice_index shares q + 1) × (0 < slice_index rest q))) (sym k) handed_same)
        (handed_other p) (cases_eq p b);
    order = handed_order;
  }

-- a number that becomes 0 is above 0 no more
positives_set : (rs : List ℕ) (b : ℕ) → b < length rs → 0 < slice_index rs b → positives (slice_set rs b 0) + 1 ≡ positives rs
positives_set rs b l z =
    let s = sum_by-set (λ x. cond (nat_lt 0 x) 1 0) rs b 0 0 l in
    let one = cond-true {A = ℕ} (nat_lt 0 (slice_index rs b)) 1 0 (lt-ltb 0 (slice_index rs b) z) in
    omega arith

pub handed : (n : ℕ) (rest shares : List ℕ) → length shares ≡ length rest → n ≤ positives rest → Handed n rest shares (hand_out n rest shares)
unfolding hand_out
handed zero rest shares e h = record { long = refl; adds = omega arith; each = λ p. inl refl; order = λ p q ep eq. absurd (omega arith) }
handed (suc n) rest shares e h =
    let f = first_largest_positive rest (omega arith) in
    let b : ℕ = first_largest rest in
    let less = positives_set rest b f.0 f.1 in
    let same : length (slice_set shares b (slice_index shares b + 1)) ≡ length (slice_set rest b 0) = length-set shares b _ ∙ e ∙ sym (length-set rest b 0) in
    handed_more n rest shares _ b f.0 e f.1 (first_largest_best rest (omega arith)) (handed n (slice_set rest b 0) (slice_set shares b (slice_index shares b + 1)) same (omega arith))

-- floors and remainders make up the fund
parts : (fund t : ℕ) (ws : List ℕ) → sum (map (λ w. fund * w / t) ws) * t + sum (map (λ w. fund * w % t) ws) ≡ fund * sum ws
parts fund t [] = rw (mul-zero, zero-mul)
parts fund t (w ∷ ws) =
    let f = ap (λ z. z * t) (sum_by-cons (λ (x : ℕ). x) (fund * w / t) (map (λ v. fund * v / t) ws)) ∙ add-mul (fund * w / t) (sum (map (λ v. fund * v / t) ws)) t in
    let r = sum_by-cons (λ (x : ℕ). x) (fund * w % t) (map (λ v. fund * v % t) ws) in
    let s = ap (λ z. fund * z) (sum_by-cons (λ (x : ℕ). x) w ws) ∙ mul-add fund w (sum ws) in
    omega (arith, parts fund t ws, div-add-mod' (fund * w) t)

-- each remainder is below t, so they make less than t for each that is above 0
remainders_small : (fund t : ℕ) (ws : List ℕ) → 0 < t → sum (map (λ w. fund * w % t) ws) ≤ positives (map (λ w. fund * w % t) ws) * t
remainders_small fund t [] h = omega arith
remainders_small fund t (w ∷ ws) h =
    let rs : List ℕ = map (λ v. fund * v % t) ws in
    let ih = remainders_small fund t ws h in
    let r = sum_by-cons (λ (x : ℕ). x) (fund * w % t) rs in
    ⊎_elim
    (λ lt. let m = ap (λ z. z * t) (positives_one (fund * w % t) rs lt) ∙ add-mul 1 (positives rs) t in omega (arith, mod-lt (fund * w) h))
    (λ le. let m = ap (λ z. z * t) (positives_none (fund * w % t) rs (omega arith)) in omega arith)
    (cases_lt 0 (fund * w % t))

-- the floors leave of the fund no more fen than there are remainders above 0
module _ (ws : List ℕ) (fund : ℕ) (h : 0 < sum ws) where
  pub floors_le : sum (floors ws fund) ≤ fund
  unfolding floors
  floors_le = le_of_mul-le-mul_right (omega (arith, parts fund (sum ws) ws)) h

  pub left_few : fund - sum (floors ws fund) ≤ positives (remainders ws fund)
  unfolding floors remainders
  left_few =
      let le = floors_le in
      let f : ℕ = sum (map (λ w. fund * w / sum ws) ws) in
      let m = ap (λ z. z * sum ws) (let q : fund ≡ (fund - f) + f = omega arith in q) ∙ add-mul (fund - f) f (sum ws) in
      le_of_mul-le-mul_right (omega (arith, m, parts fund (sum ws) ws, remainders_small fund (sum ws) ws h)) h

  pub shared : Handed (fund - sum (floors ws fund)) (remainders ws fund) (floors ws fund) (largest_remainder_shares ws fund)
  unfolding floors remainders largest_remainder_shares
  shared = handed _ (remainders ws fund) (floors ws fund) (length-map ws _ ∙ sym (length-map ws _)) left_few

  pub largest_adds : sum (largest_remainder_shares ws fund) ≡ fund
  largest_adds = omega (arith, shared.adds, floors_le)

  pub largest_length : length (largest_remainder_shares ws fund) ≡ length ws
  unfolding floors
  largest_length = shared.long ∙ length-map ws _

-- a part rounded down, or one more where there is a remainder, is near the part
near_floor : (t d share : ℕ) → 0 < t → (share ≡ d / t) ⊎ ((share ≡ d / t + 1) × (0 < d % t)) → (share * t < d + t) × (d < share * t + t)
near_floor t d share h (inl e) =
    let m = ap (λ z. z * t) e in
    (omega (arith, div-add-mod' d t, mod-lt d h), omega (arith, div-add-mod' d t, mod-lt d h))
near_floor t d share h (inr e) =
    let m = ap (λ z. z * t) e.0 ∙ add-mul (d / t) 1 t in
    (omega (arith, e.1, div-add-mod' d t, mod-lt d h), omega (arith, div-add-mod' d t, mod-lt d h))

pub largest_near : (ws : List ℕ) (fund p : ℕ) → 0 < sum ws → p < length ws →
    (slice_index (largest_remainder_shares ws fund) p * sum ws < fund * slice_index ws p + sum ws) × (fund * slice_index ws p < slice_index (largest_remainder_shares ws fund) p * sum ws + sum ws)
unfolding floors remainders
largest_near ws fund p h l =
    let f = get_or-map (λ w. fund * w / sum ws) ws p 0 0 l in
    let r = get_or-map (λ w. fund * w % sum ws) ws p 0 0 l in
    near_floor (sum ws) (fund * slice_index ws p) (slice_index (largest_remainder_shares ws fund) p) h
    (⊎_elim (λ k. inl (k ∙ f)) (λ k. inr (omega (arith, k.0), omega (arith, k.1))) ((shared ws fund h).each p))

-- one step of the code that hands out
pub hand_out_none : (n : ℕ) (rest shares : List ℕ) → n ≡ 0 → hand_out n rest shares ≡ shares
unfolding hand_out
hand_out_none n rest shares e = rw e

pub hand_out_more : (n m : ℕ) (rest shares : List ℕ) (b : ℕ) → n ≡ m + 1 → b ≡ first_largest rest →
    hand_out m (slice_set rest b 0) (slice_set shares b (slice_index shares b + 1)) ≡ hand_out n rest shares
unfolding hand_out
hand_out_more n m rest shares b e f = let k = e ∙ add-one m in rw (k, f)

pub floors_length : (ws : List ℕ) (fund : ℕ) → length (floors ws fund) ≡ length ws
unfolding floors
floors_length ws fund = length-map ws _

pub remainders_length : (ws : List ℕ) (fund : ℕ) → length (remainders ws fund) ≡ length ws
unfolding remainders
remainders_length ws fund = length-map ws _

-- what the code computes for a party
module _ (ws : List ℕ) (fund p w t : ℕ) (l : p < length ws) (ew : w ≡ slice_index ws p) (et : t ≡ sum ws) where
  pub floor_code : fund * w / t ≡ slice_index (floors ws fund) p
  unfolding floors
  floor_code = rw (ew, et) (sym (get_or-map (λ v. fund * v / sum ws) ws p 0 0 l))

  pub remainder_code : fund * w % t ≡ slice_index (remainders ws fund) p
  unfolding remainders
  remainder_code = rw (ew, et) (sym (get_or-map (λ v. fund * v % sum ws) ws p 0 0 l))

  pub part_fits : fund * w ≤ fund * sum ws
  part_fits = rw ew (mul-le-mul_left fund (get_or-le-sum_by (λ (x : ℕ). x) ws p 0 l))

  pub floor_more : sum (take (p + 1) (floors ws fund)) ≡ sum (take p (floors ws fund)) + fund * w / t
  floor_more =
      let m = sum_by_more (λ (x : ℕ). x) (floors ws fund) p 0 (omega (arith, floors_length ws fund)) in
      rw floor_code m

  pub floor_le : 0 < t → sum (take p (floors ws fund)) + fund * w / t ≤ fund
  floor_le h = omega (arith, floor_more, sum_by-take-le (λ (x : ℕ). x) (floors ws fund) (p + 1), floors_le ws fund (omega arith))

-- the fen that are left over go to the largest remainders
pub served_first : (ws : List ℕ) (fund : ℕ) → 0 < sum ws → ServedFirst ws fund (largest_remainder_shares ws fund)
served_first ws fund h = record {
  rounded = λ p l. ⊎_elim inl (λ k. inr k.0) ((shared ws fund h).each p);
  ahead = λ p q lp lq. (shared ws fund h).order p q;
}
