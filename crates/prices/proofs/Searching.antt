-- The search for an hour that is not empty, step by step.
use Rattle.std.proofs.Common.{◌≡◌, ℕ, suc, ◌+◌, ◌-◌, ◌<◌, Bool, true, false, cond, List, [], ◌∷◌, Some, None, Option, sym, refl, ap, ◌∙◌, add-one, arith}
use Rattle.std.specs.Fn.{CalledAt}
use Rattle.std.specs.Iterator.{YieldsThen}
use Rattle.std.specs.Iterator.Adapters.{rev_steps, rev_source}
use Rattle.std.specs.List.{FoldsTo}
use Rattle.std.specs.Option.{IfSome}
use Rattle.std.specs.Range.{range_steps_back}
use Rattle.std.specs.declared.iter.Rev.{Rev}
use Rattle.std.specs.declared.ops.Range.{Range}
use denote.Param.Members.{Mut}
use denote.Ref.{Bor}
use Rattle.prices.specs.Hours.{first_from, last_before}

-- hours from the last one down
abbrev pub back : Rev (Range ℕ) → Option ℕ → Rev (Range ℕ) → Type 0
back = rev_steps (range_steps_back (λ x y. y - x) (λ x y. y ≡ x + 1))

module _ (full : ℕ → Bool) where
  pub first_step : (h : ℕ) → h < 24 → first_from full h (24 - h) ≡ cond (full h) (Some h) (first_from full (h + 1) (24 - (h + 1)))
  unfolding first_from
  first_step h l = let q : 24 - h ≡ suc (24 - (h + 1)) = omega arith in ap (first_from full h) q

  -- what `find` answers over the hours from the last one down
  pub last_by_find : {F : Type 0} {g : Mut F (Bor ℕ × Unit {0}) Bool} (f : F) → ((x : ℕ) (b : Bool) (q : F) → CalledAt g f x b q → (q ≡ f) × (b ≡ full x)) → (xs : List ℕ) (s u : Rev (Range ℕ)) (r : Option ℕ) (j : F)
      → (rev_source s).start ≡ 0 → YieldsThen back s xs r u → FoldsTo (λ p x q. CalledAt g p x false q) f xs j → IfSome r (λ x. (h : F) × CalledAt g j x true h) → r ≡ last_before full (rev_source s).end
  unfolding last_before
  last_by_find f calls [] s u None j z y folds called =
      let e : (rev_source s).end ≡ 0 = omega (arith, ap (λ (v : Rev (Range ℕ)). v.iter.end) y.1, ap (λ (v : Rev (Range ℕ)). v.iter.start) y.1, y.2.1.0) in
      sym (ap (last_before full) e)
  last_by_find f calls [] s u (Some x) j z y folds called =
      let e : (rev_source s).end ≡ x + 1 = omega (arith, ap (λ (v : Rev (Range ℕ)). v.iter.end) y.1, y.2.1.1, y.2.1.2) in
      let call = calls x true called.0 (rw (sym folds) at called.1) in
      rw (e, add-one x, sym call.1) refl
  last_by_find f calls (x ∷ xs) s u r j z y folds called =
      let step = y.1.1 in
      let e : (rev_source s).end ≡ x + 1 = omega (arith, step.1.1, step.1.2) in
      let call = calls x false folds.0 folds.1 in
      let rest = last_by_find f calls xs y.1.0 u r j (step.0 ∙ z) (y.0, y.1.2, y.2) (rw call.0 at folds.2) called in
      rw (e, add-one x, sym call.1) (rest ∙ ap (last_before full) (sym step.1.1))
