-- Shares rounded down, and the fen that are left over to the largest remainders.
use Rattle.std.specs.Prelude.{◌≡◌, ℕ, zero, suc, ◌+◌, ◌-◌, ◌*◌, ◌/◌, ◌%◌, ◌<◌, max, ◌⊎◌, List, [], ◌∷◌, map, length, sum, nat_lt, slice_index, slice_set}
use Rattle.std.specs.List.{prefix_len}

-- each party's part of the fund rounded down, and the remainder of that division
unfoldable pub floors : List ℕ → ℕ → List ℕ
floors weights fund = map (λ w. fund * w / sum weights) weights

unfoldable pub remainders : List ℕ → ℕ → List ℕ
remainders weights fund = map (λ w. fund * w % sum weights) weights

-- the largest number of a list, and the first place where it stands
unfoldable pub largest : List ℕ → ℕ
largest [] = 0
largest (x ∷ xs) = max x (largest xs)

unfoldable pub first_largest : List ℕ → ℕ
first_largest xs = prefix_len (λ x. nat_lt x (largest xs)) xs

-- n times: one fen more to the party with the largest remainder (the lower one on a tie), whose remainder is 0 from then on
unfoldable pub hand_out : ℕ → List ℕ → List ℕ → List ℕ
hand_out zero rest shares = shares
hand_out (suc n) rest shares = hand_out n (slice_set rest (first_largest rest) 0) (slice_set shares (first_largest rest) (slice_index shares (first_largest rest) + 1))

-- the parts rounded down, and what they leave of the fund handed out by the remainders
unfoldable pub largest_remainder_shares : List ℕ → ℕ → List ℕ
largest_remainder_shares weights fund = hand_out (fund - sum (floors weights fund)) (remainders weights fund) (floors weights fund)

-- one party's remainder is larger than another's, or as large and the party's number is lower
abbrev pub Ahead : List ℕ → ℕ → ℕ → Type 0
Ahead rest p q = (slice_index rest q < slice_index rest p) ⊎ ((slice_index rest q ≡ slice_index rest p) × (p < q))

-- each share is the part rounded down or one fen more, and a party with a fen more is ahead of each without
pub record ServedFirst (weights : List ℕ) (fund : ℕ) (shares : List ℕ) : Type 0 where
  pub rounded : (p : ℕ) → p < length weights → (slice_index shares p ≡ slice_index (floors weights fund) p) ⊎ (slice_index shares p ≡ slice_index (floors weights fund) p + 1)
  pub ahead : (p q : ℕ) → p < length weights → q < length weights → slice_index shares p ≡ slice_index (floors weights fund) p + 1 → slice_index shares q ≡ slice_index (floors weights fund) q
      → Ahead (remainders weights fund) p q
