-- Lemmas on sums over the hours.
use Rattle.std.proofs.Common.{◌≡◌, ◌≢◌, ℕ, zero, suc, ◌+◌, ◌<◌, Bool, true, false, List, length, get_or, ℤ, pos, Decides, refl, ap, ◌∙◌, subst, add-one, zero-add, arith}
use Rattle.std.proofs.lemmas.List.FromFn.{length-enumerate_from, get_or-enumerate_from}
use Rattle.std.specs.Bool.{MatchBool}
use Rattle.std.specs.List.{fold, range_with_len, enumerate_from, HoldsAt, AllWithin}
use Rattle.market.specs.declared.kinds.Side.{Side}
use Rattle.market.specs.declared.kinds.Side.TheVariants.{Seller}
use Rattle.totals.specs.declared.energy.Energy.{Energy}
use Rattle.totals.specs.Sums.{up_to, plus}

-- the energy of the hours 1 to n
abbrev pub sums : (ℕ → Energy) → ℕ → Energy
sums energy n = record { day_ahead = up_to (λ hour. (energy hour).day_ahead) n; metered = up_to (λ hour. (energy hour).metered) n }

one_more : (energy : ℕ → Energy) (m : ℕ) → plus (sums energy m) (energy (m + 1)) ≡ sums energy (m + 1)
unfolding up_to
one_more energy m = rw add-one refl

-- the hours' energies added to those of the hours before
sums_on : (energy : ℕ → Energy) (m n : ℕ) → fold (λ sum hour. plus sum (energy hour)) (sums energy m) (range_with_len (m + 1) n) ≡ sums energy (m + n)
sums_on energy m zero = ap (sums energy) (let e : m ≡ m + 0 = omega arith in e)
sums_on energy m (suc n) =
    ap (λ sum. fold (λ sum hour. plus sum (energy hour)) sum (range_with_len (m + 1 + 1) n)) (one_more energy m) ∙ sums_on energy (m + 1) n
    ∙ ap (sums energy) (let e : m + 1 + n ≡ m + suc n = omega arith in e)

-- the energies of a day, added up from none
pub day_sums : (energy : ℕ → Energy) (none sum : Energy) → none.day_ahead ≡ pos 0 → none.metered ≡ pos 0 → sum ≡ fold (λ sum hour. plus sum (energy hour)) none (range_with_len 1 24)
    → sum ≡ sums energy 24
unfolding up_to
day_sums energy none sum a m e =
    let start : none ≡ sums energy 0 = ap (λ z. record { day_ahead = z; metered = none.metered }) a ∙ ap (λ z. record { day_ahead = pos 0; metered = z }) m in
    e ∙ ap (λ first. fold (λ sum hour. plus sum (energy hour)) first (range_with_len 1 24)) start ∙ sums_on energy 0 24

-- some party sold something, said of the parties with their numbers
pub from_any : (sold : ℕ → Side → ℤ) (sides : List Side) (r : Bool)
    → MatchBool r ((k : ℕ) × (k < length (enumerate_from 0 sides)) × HoldsAt (λ p. sold p.0 p.1 ≢ pos 0) (enumerate_from 0 sides) k)
    (AllWithin (λ p. sold p.0 p.1 ≡ pos 0) (enumerate_from 0 sides) 0 (length (enumerate_from 0 sides)))
    → Decides r ((party : ℕ) × (party < length sides) × (sold party (get_or sides party Seller) ≢ pos 0))
from_any sold sides true m =
    let there : m.0 < length sides = omega (arith, length-enumerate_from 0 sides) in
    let at = get_or-enumerate_from 0 sides m.0 (0, Seller) there in
    (λ e. (m.0, there, subst (λ p. sold p.0 p.1 ≢ pos 0) (at ∙ ap (λ k. (k, get_or sides m.0 Seller)) (zero-add m.0)) (m.2 (0, Seller))), λ ran. refl)
from_any sold sides false m = (
  λ e. cc,
  λ ran.
      let at = get_or-enumerate_from 0 sides ran.0 (0, Seller) ran.1 in
      absurd (ran.2 (subst (λ p. sold p.0 p.1 ≡ pos 0) (at ∙ ap (λ k. (k, get_or sides ran.0 Seller)) (zero-add ran.0)) (m ran.0 (0, Seller) (omega arith) (omega (arith, length-enumerate_from 0 sides))))),
)
