-- Lemmas on the division of a fund of either sign.
use Rattle.std.proofs.Common.{◌≡◌, ℕ, ◌+◌, ◌-◌, ◌*◌, ◌/◌, ◌%◌, ◌<◌, ◌≤◌, Bool, true, false, cond, ◌||◌, ltb, leb, List, [], ◌∷◌, ◌++◌, map, length, get_or, drop, replicate, ℤ, pos, negsuc, ◌+ℤ◌, ◌-ℤ◌, ◌*ℤ◌, neg_ℤ, nat_abs, is_some, Some, None, fold, sum, Option, Result, Ok, Err, sym, refl, ap, ◌∙◌, subst, ⊎_elim, mul-le-mul_right, mul-le-mul_left, div-mul-le_self, arith}
use lib.IntN.{neg_ℤ-+ℤ, pos-*ℤ-pos}
use lib.Signed.{lt_z}
use Rattle.std.proofs.lemmas.Nat.{le-div}
use Rattle.std.proofs.lemmas.List.{drop-replicate, get_or_append_left, get_or-map, length-map, take_at}
use Rattle.std.proofs.lemmas.Int.{ints}
use Rattle.std.proofs.lemmas.List.Sums.{prefix_len_is}
use Rattle.std.proofs.lemmas.Bool.{cond-true, cond-false, or_from, le-ltb, lt-ltb, le-leb, lt-leb, cases_lt}
use Rattle.std.specs.Result.{result_ok, result_err}
use Rattle.money.proofs.Products.{neg_times}
use Rattle.sharing.specs.Divisions.{light, unweighable, unshareable, signed_as, signed_shares, exact_part, part_of, AddUp, NearParts}
use Rattle.sharing.specs.Limits.{Weights, most_parties, most_weight, most_product}
use Rattle.sharing.specs.Parts.{LessThanFenAbove, LessThanFenBelow}
use Rattle.sharing.specs.declared.division.Unshareable.{Unshareable}
use Rattle.sharing.specs.declared.division.Unshareable.TheVariants.{PartyCount, Weight, Product}

-- the first weight that is too large
pub too_heavy : (given : List ℕ) (p : ℕ) → 1 ≤ length given → length given ≤ most_parties → p < length given → most_weight < get_or given p 0
    → ((k : ℕ) → k < p → get_or given k 0 ≤ most_weight) → Some (Weight p) ≡ unweighable given None
too_heavy given p some few l heavy below =
    let at : light given ≡ p = prefix_len_is (λ w. leb w most_weight) given p 0 (omega arith) (λ k b. le-leb _ _ (below k b)) (λ _. lt-leb _ _ heavy) in
    sym
    (cond-false (ltb (length given) 1 || ltb most_parties (length given)) _ _ (or_from _ _ (le-ltb _ _ some) (le-ltb _ _ few))
    ∙ cond-true (ltb (light given) (length given)) _ _ (lt-ltb _ _ (omega arith))
    ∙ ap (λ k. Some (Weight k)) at)

-- of weights that are not refused the fund decides
pub weighable : (given : List ℕ) (other : Option Unshareable) → Weights given → other ≡ unweighable given other
weighable given other weights =
    let all : light given ≡ length given = prefix_len_is (λ w. leb w most_weight) given (length given) 0 (omega arith) (λ k b. le-leb _ _ (weights.small k b)) (λ l. absurd (omega arith)) in
    sym
    (cond-false (ltb (length given) 1 || ltb most_parties (length given)) _ _ (or_from _ _ (le-ltb _ _ weights.some) (le-ltb _ _ weights.few))
    ∙ cond-false (ltb (light given) (length given)) _ _ (le-ltb _ _ (omega arith)))

-- weights that are refused are so whatever the fund is
first_refusal : (a b : Bool) (x y fault : Unshareable) (other : Option Unshareable) → Some fault ≡ cond a (Some x) (cond b (Some y) None) → Some fault ≡ cond a (Some x) (cond b (Some y) other)
first_refusal true b x y fault other e = e
first_refusal false true x y fault other e = e
first_refusal false false x y fault other e = absurd (let z : ◌≡◌ {A = ℕ} 0 1 = cc in omega arith)

pub refused_weights : (given counted : List ℕ) (size : ℕ) (fault : Unshareable) → Some fault ≡ unweighable given None → Some fault ≡ unshareable given counted size
unfolding unshareable
refused_weights given counted size fault e =
    first_refusal (ltb (length given) 1 || ltb most_parties (length given)) (ltb (light given) (length given)) PartyCount (Weight (light given)) fault
    (cond (ltb most_product (size * sum counted)) (Some Product) None) e

-- the product test by a division
module _ (given counted : List ℕ) (size total : ℕ) (et : total ≡ sum counted) where
  product : size * total ≡ size * sum counted
  product = rw et

  pub fund_within : size ≤ most_product / total → size * sum counted ≤ most_product
  fund_within h = omega (arith, mul-le-mul_right total h, div-mul-le_self most_product total, product)

  pub refused_product : 0 < total → Weights given → most_product / total < size → Some Product ≡ unshareable given counted size
  unfolding unshareable
  refused_product some weights h =
      let over : most_product < size * sum counted =
      ⊎_elim (λ lt. lt) (λ le. absurd (omega (arith, le-div size most_product total some (omega (arith, product))))) (cases_lt most_product (size * sum counted)) in
      sym (cond-true (ltb most_product (size * sum counted)) (Some Product) None (lt-ltb _ _ over)) ∙ weighable given _ weights

  pub accepted : Weights given → size ≤ most_product / total → None ≡ unshareable given counted size
  unfolding unshareable
  accepted weights h =
      sym (cond-false (ltb most_product (size * sum counted)) (Some Product) None (le-ltb _ _ (fund_within h)))
      ∙ weighable given _ weights

-- a fund that is shared is itself within the limit of the product
pub size_within : (size : ℕ) (counted : List ℕ) → 0 < sum counted → size * sum counted ≤ most_product → size ≤ most_product
size_within size counted some h = omega (arith, mul-le-mul_left size some)

-- signed sizes add up as the sizes do
sign_sum : (fund : ℤ) (a b : ℕ) → signed_as fund a +ℤ signed_as fund b ≡ signed_as fund (a + b)
sign_sum fund a b = by (lt_z fund (pos 0))
  where
    by : (n : Bool) → cond n (neg_ℤ (pos a)) (pos a) +ℤ cond n (neg_ℤ (pos b)) (pos b) ≡ cond n (neg_ℤ (pos (a + b))) (pos (a + b))
    by true = sym (neg_ℤ-+ℤ (pos a) (pos b))
    by false = refl

sign_sums : (fund : ℤ) (a : ℕ) (sizes : List ℕ) → fold ◌+ℤ◌ (signed_as fund a) (map (signed_as fund) sizes) ≡ signed_as fund (fold ◌+◌ a sizes)
sign_sums fund a [] = refl
sign_sums fund a (x ∷ sizes) = ap (λ z. fold ◌+ℤ◌ z (map (signed_as fund) sizes)) (sign_sum fund a x) ∙ sign_sums fund (a + x) sizes

sign_none : (fund : ℤ) → signed_as fund 0 ≡ pos 0
sign_none fund = by (lt_z fund (pos 0))
  where
    by : (n : Bool) → cond n (neg_ℤ (pos 0)) (pos 0) ≡ pos 0
    by true = refl
    by false = refl

-- the signed shares of n parties, and the zeros past the last
pub signed_all : (fund : ℤ) (sizes : List ℕ) (n : ℕ) → length sizes ≡ n → map (signed_as fund) sizes ++ drop n (replicate most_parties (pos 0)) ≡ signed_shares fund sizes
unfolding signed_shares
signed_all fund sizes n long =
    ap (λ (zeros : List ℤ). map (signed_as fund) sizes ++ zeros) (drop-replicate n most_parties (pos 0))
    ∙ ap (λ (k : ℕ). map (signed_as fund) sizes ++ replicate (most_parties - k) (pos 0)) (sym long)

-- a fund by its size
sign_size : (fund : ℤ) → signed_as fund (nat_abs fund) ≡ fund
sign_size (pos n) = cond-false (ltb n 0) (neg_ℤ (pos n)) (pos n) (le-ltb n 0 (omega arith))
sign_size (negsuc n) = refl

-- the sizes are near, so the signed numbers are
sign_near : (fund : ℤ) (share size weight total : ℕ) → share * total < size * weight + total → size * weight < share * total + total
    → nat_abs (signed_as fund share *ℤ pos total -ℤ signed_as fund size *ℤ pos weight) < total
sign_near fund share size weight total upper lower = by (lt_z fund (pos 0))
  where
    by : (n : Bool) → nat_abs (cond n (neg_ℤ (pos share)) (pos share) *ℤ pos total -ℤ cond n (neg_ℤ (pos size)) (pos size) *ℤ pos weight) < total
    by true = rw (neg_times share total, neg_times size weight) (omega (arith, ints))
    by false = rw (pos-*ℤ-pos share total, pos-*ℤ-pos size weight) (omega (arith, ints))

-- what the laws of a rule say of the signed shares
module _ (fund : ℤ) (sizes : List ℕ) where
  pub adds_up : (n : ℕ) → length sizes ≡ n → sum sizes ≡ nat_abs fund → AddUp n fund (signed_shares fund sizes)
  unfolding signed_shares
  adds_up n long adds =
      ap (fold ◌+ℤ◌ (pos 0)) (take_at (map (signed_as fund) sizes) _ n (length-map sizes (signed_as fund) ∙ long))
      ∙ ap (λ z. fold ◌+ℤ◌ z (map (signed_as fund) sizes)) (sym (sign_none fund)) ∙ sign_sums fund 0 sizes ∙ ap (signed_as fund) adds ∙ sign_size fund

  share_at : (p : ℕ) → p < length sizes → get_or (signed_shares fund sizes) p (pos 0) ≡ signed_as fund (get_or sizes p 0)
  unfolding signed_shares
  share_at p l =
      get_or_append_left (map (signed_as fund) sizes) _ (pos 0) p (omega (arith, length-map sizes (signed_as fund))) ∙ get_or-map (signed_as fund) sizes p 0 (pos 0) l

  pub near_parts : (counted : List ℕ) → length sizes ≡ length counted
      → ((p : ℕ) → p < length counted → LessThanFenAbove counted (nat_abs fund) sizes p)
      → ((p : ℕ) → p < length counted → LessThanFenBelow counted (nat_abs fund) sizes p)
      → NearParts counted fund (signed_shares fund sizes)
  near_parts counted long upper lower p l =
      let near = sign_near fund (get_or sizes p 0) (nat_abs fund) (get_or counted p 0) (sum counted) (upper p l) (lower p l) in
      let Near : ℤ → ℤ → Type 0 = λ x y. nat_abs (x *ℤ pos (sum counted) -ℤ y *ℤ pos (get_or counted p 0)) < sum counted in
      subst (λ (y : ℤ). Near (get_or (signed_shares fund sizes) p (pos 0)) y) (sign_size fund)
      (subst (λ (x : ℤ). Near x (signed_as fund (nat_abs fund))) (sym (share_at p (omega arith))) near)

-- a party's exact part, where the fund is shared and there is such a party
pub part_there : (given counted : List ℕ) (size party s weight total : ℕ) → None ≡ unshareable given counted size → party < length given → s ≡ size → weight ≡ get_or counted party 0
    → total ≡ sum counted → Some (record { weight = weight; total = total; whole = s * weight / total; rest = s * weight % total }) ≡ part_of given counted size party
part_there given counted size party s weight total none l es ew et =
    let here : is_some (unshareable given counted size) || leb (length given) party ≡ false = or_from _ _ (ap is_some (sym none)) (lt-leb _ _ l) in
    rw (es, ew, et) (sym (cond-false (is_some (unshareable given counted size) || leb (length given) party) None (Some (exact_part counted size party)) here))

-- no part by weights that are refused
pub no_part : {A : Type 0} (given counted : List ℕ) (size party : ℕ) (r : Result A Unshareable) → None ≡ result_ok r → result_err r ≡ unweighable given None → None ≡ part_of given counted size party
no_part given counted size party (Ok x) none e = absurd (let z : ◌≡◌ {A = ℕ} 0 1 = cc in omega arith)
no_part given counted size party (Err fault) none e =
    sym
    (cond-true (is_some (unshareable given counted size) || leb (length given) party) None (Some (exact_part counted size party))
    (ap (λ (o : Option Unshareable). is_some o || leb (length given) party) (sym (refused_weights given counted size fault e))))
