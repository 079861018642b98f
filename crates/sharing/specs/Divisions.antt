-- A fund of either sign, divided among parties.
use Rattle.std.specs.Prelude.{◌≡◌, ℕ, ◌-◌, ◌*◌, ◌/◌, ◌%◌, ◌<◌, cond, ◌||◌, leb, List, ◌++◌, map, length, take, replicate, ℤ, pos, ◌-ℤ◌, ◌*ℤ◌, neg_ℤ, is_some, Some, None, sum, Option, int_lt, nat_le, nat_lt, slice_index, slice_index_or, unsigned_abs}
use Rattle.std.specs.List.{prefix_len}
use Rattle.money.specs.Tallies.{sum_of}
use Rattle.sharing.specs.Limits.{most_parties, most_weight, most_product}
use Rattle.sharing.specs.declared.division.ExactPart.{ExactPart}
use Rattle.sharing.specs.declared.division.Unshareable.{Unshareable}
use Rattle.sharing.specs.declared.division.Unshareable.TheVariants.{PartyCount, Weight, Product}

-- how many parties come before the first whose weight is too large
abbrev pub light : List ℕ → ℕ
light given = prefix_len (λ weight. leb weight most_weight) given

-- why no rule shares by these weights, and else the other reason
abbrev pub unweighable : List ℕ → Option Unshareable → Option Unshareable
unweighable given other =
    cond (nat_lt (length given) 1 || nat_lt most_parties (length given)) (Some PartyCount)
    (cond (nat_lt (light given) (length given)) (Some (Weight (light given))) other)

-- why a fund of this size is not shared: the number of parties, then the first weight that is too large, then the product
unfoldable pub unshareable : List ℕ → List ℕ → ℕ → Option Unshareable
unshareable given counted size = unweighable given (cond (nat_lt most_product (size * sum counted)) (Some Product) None)

-- a share of this size is negative where the fund is
abbrev pub signed_as : ℤ → ℕ → ℤ
signed_as fund size = cond (int_lt fund (pos 0)) (neg_ℤ (pos size)) (pos size)

-- the shares by their sizes, and 0 at each place past the last party
unfoldable pub signed_shares : ℤ → List ℕ → List ℤ
signed_shares fund sizes = map (signed_as fund) sizes ++ replicate (most_parties - length sizes) (pos 0)

-- a party's exact part of a fund of this size: its counted weight, their total, and size times weight divided by it
abbrev pub exact_part : List ℕ → ℕ → ℕ → ExactPart
exact_part counted size party =
    record {
      weight = slice_index counted party;
      total = sum counted;
      whole = size * slice_index counted party / sum counted;
      rest = size * slice_index counted party % sum counted;
    }

-- the part, where the fund is shared and there is such a party
abbrev pub part_of : List ℕ → List ℕ → ℕ → ℕ → Option ExactPart
part_of given counted size party = cond (is_some (unshareable given counted size) || nat_le (length given) party) None (Some (exact_part counted size party))

-- the shares of the first n parties add up to the fund
abbrev pub AddUp : ℕ → ℤ → List ℤ → Type 0
AddUp n fund shares = sum_of (λ share. share) (take n shares) ≡ fund

-- each share is less than one fen away from the party's exact part of the fund; stated times the total of the counted weights
abbrev pub NearParts : List ℕ → ℤ → List ℤ → Type 0
NearParts counted fund shares =
    (party : ℕ) → party < length counted → unsigned_abs (slice_index_or shares party (pos 0) *ℤ pos (sum counted) -ℤ fund *ℤ pos (slice_index counted party)) < sum counted
