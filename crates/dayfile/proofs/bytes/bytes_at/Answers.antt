use Rattle.std.proofs.Common.{◌≡◌, ℕ, zero, suc, ◌+◌, ◌<◌, ◌≤◌, List, slice_index, inl, inr, refl, sym, ◌∙◌, ap, rules, arith}
use Rattle.std.proofs.lemmas.Bool.{cases_lt}
use Rattle.std.specs.Array.{IsFromFnResultFrom}
use Rattle.std.specs.Fn.{Called, Mut}
use Rattle.dayfile.specs.Bytes.{byte_at}
use Rattle.dayfile.proofs.bytes.bytes_at.Goals as goal

-- what each call keeps of the closure and gives at its number, the array has at that number
called_each : {F : Type 0} (g : Mut F (ℕ × Unit {0}) ℕ) (Good : F → Type 0) (value : ℕ → ℕ) (bytes : List ℕ)
    → ((p q : F) (i y : ℕ) → Good p → Called g p (i, tt) y q → Good q × (y ≡ value i))
    → (f : F) (i n : ℕ) → Good f → IsFromFnResultFrom g f bytes i n → (k : ℕ) → i ≤ k → k < i + n → slice_index bytes k ≡ value k
called_each g Good value bytes step f i zero good calls k low high = absurd (let no : ⊥ = omega arith in no)
called_each g Good value bytes step f i (suc n) good calls k low high =
    let here = step f calls.0 i calls.1 good calls.3 in
    elim (cases_lt i k) [
      | inl lt ↦ called_each g Good value bytes step calls.0 (i + 1) n here.0 calls.4 k (omega arith) (omega arith)
      | inr le ↦ let same : i ≡ k = omega arith in ap (slice_index bytes) (sym same) ∙ calls.2.1 0 ∙ here.1 ∙ ap value same
    ]

pub returns : goal.returns
returns g c = λ i below.
    called_each _ (λ f. (f.0.now ≡ c.args.file.now) × (f.1.now ≡ c.args.at)) (λ k. byte_at c.args.file.now (c.args.at + k)) c.from_fn.result
    (λ p q k y good call. search rules) _ 0 g.row.N (refl, refl) c.from_fn.ensures.items.each i (omega arith) (omega arith)
