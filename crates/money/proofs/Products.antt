-- Products of integers over sums and differences.
use Rattle.std.proofs.Common.{◌≡◌, ℕ, zero, suc, ◌*◌, ℤ, pos, negsuc, ◌+ℤ◌, ◌-ℤ◌, ◌*ℤ◌, neg_ℤ, ap, arith}
use lib.IntN.{+ℤ-suc_ℤ, +ℤ-pred_ℤ, +ℤ_idr, zero-*ℤ, suc_ℤ-*ℤ, pred_ℤ-*ℤ, *ℤ_comm, -ℤ-+ℤ_cancel}
use Rattle.std.proofs.lemmas.Int.{ints}

pub sum_times : (a b k : ℤ) → (a +ℤ b) *ℤ k ≡ a *ℤ k +ℤ b *ℤ k
sum_times a (pos zero) k = rw (+ℤ_idr a, zero-*ℤ k) (omega (arith, ints))
sum_times a (pos (suc n)) k = rw (+ℤ-suc_ℤ a (pos n)) (omega (arith, ints, suc_ℤ-*ℤ (a +ℤ pos n) k, suc_ℤ-*ℤ (pos n) k, sum_times a (pos n) k))
sum_times a (negsuc zero) k = rw (+ℤ-pred_ℤ a (pos zero), +ℤ_idr a) (omega (arith, ints, pred_ℤ-*ℤ a k, pred_ℤ-*ℤ (pos zero) k, zero-*ℤ k))
sum_times a (negsuc (suc n)) k = rw (+ℤ-pred_ℤ a (negsuc n)) (omega (arith, ints, pred_ℤ-*ℤ (a +ℤ negsuc n) k, pred_ℤ-*ℤ (negsuc n) k, sum_times a (negsuc n) k))

pub difference_times : (a b k : ℤ) → (a -ℤ b) *ℤ k ≡ a *ℤ k -ℤ b *ℤ k
difference_times a b k = let e = ap (λ z. z *ℤ k) (-ℤ-+ℤ_cancel a b) in omega (arith, ints, sum_times (a -ℤ b) b k)

pub times_sum : (k a b : ℤ) → k *ℤ (a +ℤ b) ≡ k *ℤ a +ℤ k *ℤ b
times_sum k a b = grind (arith, sum_times a b k, *ℤ_comm)

pub times_difference : (k a b : ℤ) → k *ℤ (a -ℤ b) ≡ k *ℤ a -ℤ k *ℤ b
times_difference k a b = grind (arith, difference_times a b k, *ℤ_comm)

pub neg_times : (m n : ℕ) → neg_ℤ (pos m) *ℤ pos n ≡ neg_ℤ (pos (m * n))
neg_times m n = grind (arith, ints)
