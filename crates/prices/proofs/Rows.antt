-- A day's lines cut into rows of 24, a loop over its parties, and the test of its lines.
use Rattle.std.proofs.Common.{◌≡◌, ℕ, zero, suc, ◌+◌, ◌*◌, ◌<◌, ◌≤◌, List, [], ◌∷◌, ◌++◌, length, get_or, drop, Some, None, Option, sym, ap, ◌∙◌, subst, arith, length-drop, length-append}
use Rattle.std.proofs.iter.Yields.{fronts}
use Rattle.std.proofs.lemmas.Iterator.{zips}
use Rattle.std.proofs.lemmas.List.{get_or-take, get_or-drop}
use Rattle.std.proofs.lemmas.Slice.Zip.{zip_turn, zip_end}
use Rattle.std.specs.Iterator.{Yields}
use Rattle.std.specs.Iterator.Adapters.{zip_first, zip_second}
use Rattle.std.specs.Simd.{first_chunks}
use Rattle.std.specs.Slice.Iter.{iter_rest}
use Rattle.std.specs.declared.iter.Zip.{Zip}
use Rattle.std.specs.declared.slice.Iter.{Iter}
use denote.Ref.{Bor}
use Rattle.market.specs.Limits.{LineWithin}
use Rattle.market.specs.declared.kinds.Side.{Side}
use Rattle.market.specs.declared.kinds.Side.TheVariants.{Seller}
use Rattle.market.specs.declared.records.Line.{Line}
use Rattle.prices.specs.Hours.{DayLines, line_at, side_at, no_line}

-- the line of a party's hour is that hour of the party's row
pub row_line : (k : ℕ) (lines : List Line) (party hour : ℕ) → party < k → 24 * k ≤ length lines → hour < 24 → get_or (get_or (first_chunks 24 k lines) party []) hour no_line ≡ line_at lines party hour
row_line zero lines party hour l m h = absurd (omega arith)
row_line (suc k) lines zero hour l m h =
    get_or-take 24 lines hour no_line h ∙ ap (λ i. get_or lines i no_line) (let e : hour ≡ 24 * 0 + hour = omega arith in e)
row_line (suc k) lines (suc party) hour l m h =
    row_line k (drop 24 lines) party hour (omega arith) (omega (arith, length-drop 24 lines)) h ∙ get_or-drop 24 lines (24 * party + hour) no_line
    ∙ ap (λ i. get_or lines i no_line) (let e : 24 + (24 * party + hour) ≡ 24 * suc party + hour = omega arith in e)

pub one_more : {A : Type 0} (xs : List A) (x : A) → length (xs ++ (x ∷ [])) ≡ length xs + 1
one_more xs x = omega (arith, length-append xs (x ∷ []))

-- a loop over the parties of a day, each with its row: whose turn it is, and how many turns there were
module _ (sides : List Side) (lines : List Line) (rows : List (List Line)) (hour : ℕ) (yielded : List (Bor Side × Bor (List Line))) (s t u : Zip (Iter Side) (Iter (List Line)))
    (r : Option (Bor Side × Bor (List Line))) (first : iter_rest (zip_first s) ≡ sides) (second : iter_rest (zip_second s) ≡ rows) (so-far : Yields (zips fronts fronts) s yielded t) (next : zips fronts fronts t r u) where
  pub party_turn : (side : Bor Side) (row : Bor (List Line)) → r ≡ Some (side, row) → ((p h : ℕ) → p < length sides → h < 24 → get_or (get_or rows p []) h no_line ≡ line_at lines p h) → hour < 24 → DayLines sides lines
      → (length yielded < length sides) × (side.now ≡ side_at sides (length yielded)) × (get_or row.now hour no_line ≡ line_at lines (length yielded) hour) × LineWithin (get_or row.now hour no_line)
  party_turn side row is each early day =
      let at = zip_turn sides rows yielded s t u r first second so-far (side, row) is next in
      let line = ap (λ xs. get_or xs hour no_line) (at.3 []) ∙ each (length yielded) hour at.0 early in
      (at.0, at.2 Seller, line, subst LineWithin (sym line) (day.each (24 * length yielded + hour) (omega (arith, at.0, day.whole))))

  pub parties_end : r ≡ None → length rows ≡ length sides → length yielded ≡ length sides
  parties_end is long = omega (arith, zip_end sides rows yielded s t u r first second so-far is next)
