-- Whose price an hour takes: the hour that lends is not empty, and no hour between is.
use Rattle.std.proofs.Common.{◌≡◌, ℕ, zero, suc, ◌+◌, ◌-◌, ◌<◌, ◌≤◌, Bool, true, false, cond, List, length, get_or, set, Some, None, Option, sym, refl, subst, inl, inr, ⊎_elim, arith, below_more}
use Rattle.std.proofs.lemmas.List.{get_or-set_same, get_or-set_other}
use Rattle.std.proofs.lemmas.Bool.{cases_lt}
use Rattle.std.specs.Array.{IsFromFnResultFrom}
use Rattle.std.specs.Fn.{Called}
use Rattle.std.specs.Option.{option_or, MatchOption}
use denote.Param.Members.{Mut}
use Rattle.prices.specs.Borrowing.{Empty, Borrows}
use Rattle.prices.specs.Hours.{first_from, last_before, lender}

module _ (full : ℕ → Bool) where
  -- what a search gives that goes up from an hour, and one that goes down from another
  abbrev First : ℕ → ℕ → Option ℕ → Type 0
  First h e o = MatchOption o (Empty full h e) (λ j. (h ≤ j) × (j < e) × (full j ≡ true) × Empty full h j)

  abbrev Last : ℕ → Option ℕ → Type 0
  Last n o = MatchOption o (Empty full 0 n) (λ j. (j < n) × (full j ≡ true) × Empty full (j + 1) n)

  first_more : (h e : ℕ) (b : Bool) (o : Option ℕ) → h < e → full h ≡ b → First (h + 1) e o → First h e (cond b (Some h) o)
  first_more h e true o l f w = (omega arith, l, f, λ i m k. absurd (omega arith))
  first_more h e false None l f w = λ i m k. grind (arith, w)
  first_more h e false (Some j) l f w = (omega (arith, w.0), w.1, w.2, λ i m k. grind (arith, w.3))

  last_more : (n : ℕ) (b : Bool) (o : Option ℕ) → full n ≡ b → Last n o → Last (suc n) (cond b (Some n) o)
  last_more n true o f w = (omega arith, f, λ i m k. absurd (omega arith))
  last_more n false None f w = λ i m k. grind (arith, w)
  last_more n false (Some j) f w = (omega (arith, w.0), w.1, λ i m k. grind (arith, w.2))

  is_first : (h n e : ℕ) → h + n ≡ e → First h e (first_from full h n)
  unfolding first_from
  is_first h zero e s = λ i l m. absurd (omega arith)
  is_first h (suc n) e s = first_more h e (full h) (first_from full (h + 1) n) (omega arith) refl (is_first (h + 1) n e (omega arith))

  is_last : (n : ℕ) → Last n (last_before full n)
  unfolding last_before
  is_last zero = λ i l m. absurd (omega arith)
  is_last (suc n) = last_more n (full n) (last_before full n) refl (is_last n)

  by_search : (h : ℕ) → h < 24 → (a b : Option ℕ) → First h 24 a → Last h b → Borrows full h (option_or a b)
  by_search h l (Some j) b x y = (x.1, x.2, inl (x.0, x.3))
  by_search h l None (Some j) x y = (omega (arith, y.0), y.1, inr (y.0, x, λ i p q. y.2 i (omega arith) q))
  by_search h l None None x y = λ j p q. ⊎_elim (λ (t : j < h). y j p t) (λ (t : h ≤ j). x j t q) (cases_lt j h)

  pub borrows : (h : ℕ) → h < 24 → (r : Option ℕ) → r ≡ lender full h → Borrows full h r
  borrows h l r e = subst (Borrows full h) (sym e) (by_search h l (first_from full h (24 - h)) (last_before full h) (is_first h (24 - h) 24 (omega arith)) (is_last h))

-- a table filled hour by hour: what holds of each entry so far and of the one that is written holds of all
pub filled : {X : Type 0} (P : ℕ → X → Type 0) (table : List X) (i : ℕ) (x d : X) → i < length table → ((k : ℕ) → k < i → P k (get_or table k d)) → P i x
    → (k : ℕ) → k < i + 1 → P k (get_or (set table i x) k d)
filled P table i x d l before here k h =
    below_more (λ j. P j (get_or (set table i x) j d)) i (λ j m. subst (P j) (sym (get_or-set_other table i j x d (omega arith))) (before j m)) (subst (P i) (sym (get_or-set_same table i x d l)) here) k h

-- an array made by calls that leave the closure as it was: what holds of each answer holds of each element
pub made : {F B : Type 0} (g : Mut F (ℕ × Unit {0}) B) (f : F) (ys : List B) (P : ℕ → B → Type 0) → ((i : ℕ) (y : B) (q : F) → Called g f (i, tt) y q → (q ≡ f) × P i y)
    → (n i : ℕ) → IsFromFnResultFrom g f ys i n → (k : ℕ) → i ≤ k → k < i + n → (d : B) → P k (get_or ys k d)
made g f ys P calls zero i each k l m d = absurd (omega arith)
made g f ys P calls (suc n) i each k l m d =
    let call = calls i each.1 each.0 each.3 in
    ⊎_elim
    (λ (t : i < k). made g f ys P calls n (i + 1) (rw call.0 at each.4) k (omega arith) (omega arith) d)
    (λ (t : k ≤ i). let e : k ≡ i = omega arith in rw e (rw (each.2.1 d) call.1))
    (cases_lt i k)
