-- Prices lie within the limits of a price; which hours are empty.
use Rattle.std.proofs.Common.{◌≡◌, ℕ, suc, ◌+◌, ◌*◌, ◌/◌, ◌<◌, ◌≤◌, true, false, List, length, ℤ, pos, negsuc, ◌*ℤ◌, neg_ℤ, nat_abs, ◌≤ℤ◌, ◌<ℤ◌, ap, add-mul, arith}
use lib.Signed.{lt_z}
use Rattle.std.proofs.lemmas.Nat.{div_below, mul-le}
use Rattle.std.proofs.lemmas.Int.{ints}
use Rattle.market.specs.Limits.{most_price, Energy, Price, LineWithin}
use Rattle.market.specs.declared.kinds.Side.{Side}
use Rattle.market.specs.declared.kinds.Side.TheVariants.{Seller, Buyer}
use Rattle.market.specs.declared.records.Line.{Line}
use Rattle.money.specs.Rounding.{nearest_size, rounded}
use Rattle.money.proofs.Exact.{kept, energy_kept}
use Rattle.money.proofs.Summing.{summed_zero, summed_part, summed_priced}
use Rattle.prices.specs.declared.kinds.Market.{Market}
use Rattle.prices.specs.declared.kinds.Market.TheVariants.{DayAhead, RealTime}
use Rattle.prices.specs.Hours.{DayLines, beyond_line, line_at, side_at, energy_of, node_price_of, forming, energy_in, worth_in, price_in, sold}

size_below : (n d m : ℕ) → 0 < d → n ≤ m * d → nearest_size n d ≤ m
unfolding nearest_size
size_below n d m h l = let b = div_below (n + d / 2) d (m + 1) h (omega (arith, add-mul m 1 d)) in omega arith

-- a worth of at most the highest price per kWh has a price of at most that
rounded_within : (x d : ℤ) → pos 0 <ℤ d → (neg_ℤ (pos most_price *ℤ d) ≤ℤ x) → (x ≤ℤ (pos most_price *ℤ d)) → Price (rounded x (nat_abs d))
unfolding rounded
rounded_within (pos n) (pos d) h a b = let r = size_below n d most_price (omega (arith, ints)) (omega (arith, ints)) in (omega (arith, ints), omega (arith, ints))
rounded_within (negsuc n) (pos d) h a b = let r = size_below (suc n) d most_price (omega (arith, ints)) (omega (arith, ints)) in (omega (arith, ints), omega (arith, ints))
rounded_within x (negsuc d) h a b = absurd h.lt

-- energy at a price within the limits
at_price : (k p : ℤ) → Energy k → Price p → (neg_ℤ (pos most_price *ℤ k) ≤ℤ (k *ℤ p)) × ((k *ℤ p) ≤ℤ (pos most_price *ℤ k))
at_price (pos k) (pos p) h i = let m = mul-le k p k most_price (omega arith) (omega (arith, ints)) in (omega (arith, ints), omega (arith, ints))
at_price (pos k) (negsuc p) h i = let m = mul-le k (suc p) k most_price (omega arith) (omega (arith, ints)) in (omega (arith, ints), omega (arith, ints))
at_price (negsuc k) p h i = absurd (omega (arith, ints))

forming_energy : (s : Side) (m : Market) (l : Line) → LineWithin l → Energy (forming s (energy_of m l))
forming_energy Seller DayAhead l h = h.ahead
forming_energy Seller RealTime l h = h.metered
forming_energy Buyer m l h = (omega (arith, ints), omega (arith, ints))

forming_worth : (s : Side) (m : Market) (l : Line) → LineWithin l
    → (neg_ℤ (pos most_price *ℤ forming s (energy_of m l)) ≤ℤ forming s (energy_of m l *ℤ node_price_of m l)) × (forming s (energy_of m l *ℤ node_price_of m l) ≤ℤ (pos most_price *ℤ forming s (energy_of m l)))
forming_worth Seller DayAhead l h = at_price l.day_ahead l.day_ahead_price h.ahead h.ahead_price
forming_worth Seller RealTime l h = at_price l.metered l.real_time_price h.metered h.real_time_price
forming_worth Buyer m l h = (omega (arith, ints), omega (arith, ints))

-- what a party's hour adds to the energy of an hour, and to its worth
abbrev pub energy_by : Market → List Side → List Line → ℕ → ℕ → ℤ
energy_by m sides lines h p = forming (side_at sides p) (energy_of m (line_at lines p h))

abbrev pub worth_by : Market → List Side → List Line → ℕ → ℕ → ℤ
worth_by m sides lines h p = forming (side_at sides p) (energy_of m (line_at lines p h) *ℤ node_price_of m (line_at lines p h))

module _ (m : Market) (sides : List Side) (lines : List Line) (day : DayLines sides lines) (h : ℕ) (early : h < 24) where
  pub line_within : (p : ℕ) → p < length sides → LineWithin (line_at lines p h)
  line_within p l = day.each (24 * p + h) (omega (arith, day.whole))

  -- the price of an hour that is not empty
  pub price_within : sold m sides lines h ≡ true → Price (price_in m sides lines h)
  price_within full =
      let b = summed_priced most_price (worth_by m sides lines h) (energy_by m sides lines h) (length sides) (λ p l. forming_worth (side_at sides p) m (line_at lines p h) (line_within p l)) in
      rounded_within (worth_in m sides lines h) (energy_in m sides lines h) (grind (arith, ints)) b.0 b.1

  -- a party that sold something, as the code finds it, makes the hour one that is not empty
  pub sold_since : (p : ℕ) → p < length sides → (r : ℤ) → r ≡ energy_by m sides lines h p → Energy r → lt_z (pos 0) (kept r) ≡ true → sold m sides lines h ≡ true
  sold_since p l r e energy some =
      let b = summed_part (energy_by m sides lines h) (length sides) p (λ q k. (forming_energy (side_at sides q) m (line_at lines q h) (line_within q k)).0) l in
      let more = rw (energy_kept r energy, e) at some in
      grind (arith, ints)

pub empty_hour : (m : Market) (sides : List Side) (lines : List Line) (h : ℕ) → ((p : ℕ) → p < length sides → energy_by m sides lines h p ≡ pos 0) → sold m sides lines h ≡ false
empty_hour m sides lines h none = ap (λ z. lt_z (pos 0) z) (summed_zero (energy_by m sides lines h) (length sides) none)

pub empty_since : (z r : ℤ) → r ≡ z → Energy r → lt_z (pos 0) (kept r) ≡ false → z ≡ pos 0
empty_since z r e energy none = let less = rw (energy_kept r energy) at none in grind (arith, ints)

-- a line that passes is within its limits, and one that does not is not
pub line_inside : (line : Line) → beyond_line line ≡ false → LineWithin line
line_inside line e = record { ahead = grind (arith, ints); metered = grind (arith, ints); ahead_price = grind (arith, ints); real_time_price = grind (arith, ints) }

pub line_passes : (line : Line) → LineWithin line → beyond_line line ≡ false
line_passes line within = grind (arith, ints)
