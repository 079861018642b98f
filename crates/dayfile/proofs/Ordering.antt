-- The rows of a file's check stand in the order of their refusals.
use Rattle.std.proofs.Common.{◌≡◌, ℕ, ◌+◌, ◌*◌, ◌<◌, ◌≤◌, Bool, not, eqb, List, [], ◌∷◌, ◌++◌, length, drop, Some, Option, sym, refl, ◌∙◌, subst, inl, inr, arith, lit<, rules}
use Rattle.std.proofs.lemmas.Bool.{cases_eq}
use Rattle.faults.specs.Orders.{rank, RecordEarlier}
use Rattle.faults.specs.Refusals.{record_refusal}
use Rattle.faults.specs.Rows.{first, Exact}
use Rattle.faults.specs.declared.causes.Section.TheVariants.{Quantities, NodePrices, Contracts}
use Rattle.faults.specs.declared.causes.FileFault.TheVariants.{TooShort}
use Rattle.faults.specs.declared.causes.RecordFault.{RecordFault}
use Rattle.faults.specs.declared.causes.RecordFault.TheVariants.{File, PartyCount, BeyondLimits}
use Rattle.faults.proofs.Firsts.{Listed, Ascending}
use Rattle.faults.proofs.Ascents.{Each, Placed, each_listed, each_weaker, each-++, ascending_linked, ascending-++, ascending_apart, ascending_below, exact_refusal, exact_front}
use Rattle.market.specs.declared.kinds.Side.{Side}
use Rattle.market.specs.declared.kinds.Side.TheVariants.{Seller, Buyer}
use Rattle.dayfile.specs.declared.parts.Layout.{Layout}
use Rattle.market.specs.Limits.{beyond_day_ahead, beyond_metered}
use Rattle.dayfile.specs.Bytes.{signed_at}
use Rattle.dayfile.specs.Layouts.{layout_in}
use Rattle.dayfile.specs.Structure.{structure_rows}
use Rattle.dayfile.specs.Records.{item_at, item_rows, part_rows, record_rows, check_rows, file_rows, quantity_rows, price_row, price_rows, side_at, InOrder}

-- each row of the structural check has a rank below that of the records
structure_ranks : (file : List ℕ) (n : ℕ) → Each (λ f. rank (record_refusal f) < 16) (structure_rows file n)
unfolding structure_rows
structure_ranks file n = search (rules, lit<)

-- the rows by number, and of one number by place
structure_ascends : (file : List ℕ) (n : ℕ) → Ascending RecordEarlier (structure_rows file n)
unfolding structure_rows
structure_ascends file n = ascending_linked record_refusal (File (TooShort (length file))) (drop 1 (structure_rows file n)) (search (rules, inl, inr, lit<))

-- the structural check answers exactly the earliest fault
pub exact_structure : (file : List ℕ) (n : ℕ) {answer : Option RecordFault} → answer ≡ first (structure_rows file n) → Exact RecordEarlier (structure_rows file n) answer
exact_structure file n e = subst (Exact RecordEarlier (structure_rows file n)) (sym e) (exact_refusal record_refusal (structure_rows file n) (structure_ascends file n))

-- two rows of records, the second four bytes on
two_rows : (a b : RecordFault × Bool) (at : ℕ) → rank (record_refusal a.0) ≡ 16 → (record_refusal a.0).place ≡ at → rank (record_refusal b.0) ≡ 16
    → (record_refusal b.0).place ≡ at + 4
    → Ascending RecordEarlier (a ∷ b ∷ []) × Each (Placed record_refusal 16 at (at + 8)) (a ∷ b ∷ [])
two_rows a b at ra pa rb pb = (
  ascending_linked record_refusal a.0 (b ∷ []) (inr (ra ∙ sym rb, omega arith), tt),
  ((ra, omega arith, omega arith), ((rb, omega arith, omega arith), tt)),
)

quantity_rows_lem : (file : List ℕ) (side : Side) (at : ℕ) → Ascending RecordEarlier (quantity_rows file side at) × Each (Placed record_refusal 16 at (at + 8)) (quantity_rows file side at)
quantity_rows_lem file side at =
    two_rows (BeyondLimits at, beyond_day_ahead (signed_at file at)) (BeyondLimits (at + 4), beyond_metered side (signed_at file (at + 4))) at refl refl refl refl

price_rows_lem : (file : List ℕ) (side : Side) (at : ℕ) → Ascending RecordEarlier (price_rows file side at) × Each (Placed record_refusal 16 at (at + 8)) (price_rows file side at)
price_rows_lem file Seller at = two_rows (price_row file Seller at) (price_row file Seller (at + 4)) at refl refl refl refl
price_rows_lem file Buyer at = two_rows (price_row file Buyer at) (price_row file Buyer (at + 4)) at refl refl refl refl

-- the rows of a section's items stand one after the other
quantities_ascend : (file : List ℕ) (layout : Layout) (sides : List Side)
    → Ascending RecordEarlier (part_rows file layout sides Quantities) × Each (Placed record_refusal 16 layout.quantities (layout.quantities + 8 * (24 * length sides))) (part_rows file layout sides Quantities)
quantities_ascend file layout sides =
    ascending_below record_refusal 16 layout.quantities 8 (item_rows file layout sides Quantities) (24 * length sides)
    (λ i. (quantity_rows_lem file (side_at sides i) (item_at layout Quantities i)).0)
    (λ i. (quantity_rows_lem file (side_at sides i) (item_at layout Quantities i)).1)

prices_ascend : (file : List ℕ) (layout : Layout) (sides : List Side)
    → Ascending RecordEarlier (part_rows file layout sides NodePrices) × Each (Placed record_refusal 16 layout.prices (layout.prices + 8 * (24 * length sides))) (part_rows file layout sides NodePrices)
prices_ascend file layout sides =
    ascending_below record_refusal 16 layout.prices 8 (item_rows file layout sides NodePrices) (24 * length sides)
    (λ i. (price_rows_lem file (side_at sides i) (item_at layout NodePrices i)).0)
    (λ i. (price_rows_lem file (side_at sides i) (item_at layout NodePrices i)).1)

contracts_ascend : (file : List ℕ) (layout : Layout) (sides : List Side)
    → Ascending RecordEarlier (part_rows file layout sides Contracts)
    × Each (Placed record_refusal 16 layout.contracts (layout.contracts + 12 * layout.contract_count)) (part_rows file layout sides Contracts)
contracts_ascend file layout sides =
    ascending_below record_refusal 16 layout.contracts 12 (item_rows file layout sides Contracts) layout.contract_count
    (λ i. (λ g l. absurd l, tt))
    (λ i. ((refl, omega arith, omega arith), tt))

-- every row has the rank of a record's fault
records_rank : (file : List ℕ) (layout : Layout) (sides : List Side) → Each (λ f. rank (record_refusal f) ≡ 16) (record_rows file layout sides)
unfolding record_rows
records_rank file layout sides =
    let ranked = λ (low high : ℕ) (rows : List (RecordFault × Bool)) (p : Each (Placed record_refusal 16 low high) rows).
    each_weaker (Placed record_refusal 16 low high) (λ f. rank (record_refusal f) ≡ 16) rows (λ x p. p.0) p in
    each-++ (λ f. rank (record_refusal f) ≡ 16) (part_rows file layout sides Quantities ++ part_rows file layout sides NodePrices) (part_rows file layout sides Contracts)
    (each-++ (λ f. rank (record_refusal f) ≡ 16) (part_rows file layout sides Quantities) (part_rows file layout sides NodePrices)
    (ranked layout.quantities (layout.quantities + 8 * (24 * length sides)) (part_rows file layout sides Quantities) (quantities_ascend file layout sides).1)
    (ranked layout.prices (layout.prices + 8 * (24 * length sides)) (part_rows file layout sides NodePrices) (prices_ascend file layout sides).1))
    (ranked layout.contracts (layout.contracts + 12 * layout.contract_count) (part_rows file layout sides Contracts) (contracts_ascend file layout sides).1)

-- a wider stretch of places
widened : (low high least most : ℕ) (rows : List (RecordFault × Bool)) → least ≤ low → high ≤ most → Each (Placed record_refusal 16 low high) rows
    → Each (Placed record_refusal 16 least most) rows
widened low high least most rows a b = each_weaker (Placed record_refusal 16 low high) (Placed record_refusal 16 least most) rows (λ x p. (p.0, omega arith, omega arith))

-- where the sections stand one after the other, so do their rows
records_ascend : (file : List ℕ) (layout : Layout) (sides : List Side) → InOrder file (length sides) layout → Ascending RecordEarlier (record_rows file layout sides)
unfolding record_rows
records_ascend file layout sides laid =
    let q = layout.quantities in
    let p = layout.prices in
    let k = layout.contracts in
    let quantities = part_rows file layout sides Quantities in
    let prices = part_rows file layout sides NodePrices in
    let contracts = part_rows file layout sides Contracts in
    let long = 8 * (24 * length sides) in
    let front = widened q (q + long) q p quantities (omega arith) (omega arith) (quantities_ascend file layout sides).1 in
    let middle = widened p (p + long) p k prices (omega arith) (omega arith) (prices_ascend file layout sides).1 in
    ascending_apart record_refusal 16 q k (k + 12 * layout.contract_count) (quantities ++ prices) contracts
    (ascending_apart record_refusal 16 q p k quantities prices (quantities_ascend file layout sides).0 (prices_ascend file layout sides).0 front middle)
    (contracts_ascend file layout sides).0
    (each-++ (Placed record_refusal 16 q k) quantities prices (widened q p q k quantities (omega arith) (omega arith) front) (widened p k q k prices (omega arith) (omega arith) middle))
    (contracts_ascend file layout sides).1

-- a row of a lower rank than the records' comes before each of theirs
before_records : (file : List ℕ) (layout : Layout) (sides : List Side) (f g : RecordFault) → rank (record_refusal f) < 16 → Listed (record_rows file layout sides) g → RecordEarlier f g
before_records file layout sides f g low listed =
    let high : rank (record_refusal g) ≡ 16 = each_listed (λ x. rank (record_refusal x) ≡ 16) (record_rows file layout sides) (records_rank file layout sides) g listed in
    inl (omega arith)

-- the check of the records answers exactly the earliest fault
pub exact_check : (file : List ℕ) (parties : ℕ) (layout : Layout) (sides : List Side) {answer : Option RecordFault} → answer ≡ first (check_rows file parties layout sides)
    → InOrder file parties layout → Exact RecordEarlier (check_rows file parties layout sides) answer
exact_check file parties layout sides e laid =
    elim (cases_eq parties (length sides)) [
      | inl same ↦ subst (Exact RecordEarlier (check_rows file parties layout sides)) (sym e)
          (exact_refusal record_refusal (check_rows file parties layout sides)
          (λ g l. before_records file layout sides PartyCount g (lit< tt) l, records_ascend file layout sides (subst (λ n. InOrder file n layout) same laid)))
      | inr differ ↦ subst (Exact RecordEarlier (check_rows file parties layout sides)) (let counted : Some PartyCount ≡ first (check_rows file parties layout sides) = grind arith in counted ∙ sym e)
          (exact_front record_refusal ((PartyCount, not (eqb parties (length sides))) ∷ []) (record_rows file layout sides) (λ g l. absurd l, tt)
          (λ f g l r. elim l [ inl e ↦ before_records file layout sides f g (subst (λ x. rank (record_refusal x) < 16) e (lit< tt)) r | inr n ↦ absurd n ])
          PartyCount (let counted : first ((PartyCount, not (eqb parties (length sides))) ∷ []) ≡ Some PartyCount = grind arith in counted))
    ]

structure_apart : (file : List ℕ) (sides : List Side) (f g : RecordFault) → Listed (structure_rows file (length sides)) f → Listed (record_rows file (layout_in file) sides) g → RecordEarlier f g
structure_apart file sides f g l r =
    before_records file (layout_in file) sides f g
    (each_listed (λ x. rank (record_refusal x) < 16) (structure_rows file (length sides)) (structure_ranks file (length sides)) f l) r

-- the whole check answers exactly the earliest fault: one of the structure, or, where that is right, one of the records
pub exact_broken : (file : List ℕ) (sides : List Side) (fault : RecordFault) → Some fault ≡ first (structure_rows file (length sides)) → Exact RecordEarlier (file_rows file sides) (Some fault)
exact_broken file sides fault e =
    exact_front record_refusal (structure_rows file (length sides)) (record_rows file (layout_in file) sides) (structure_ascends file (length sides)) (structure_apart file sides) fault (sym e)

pub exact_file : (file : List ℕ) (sides : List Side) {answer : Option RecordFault} → answer ≡ first (file_rows file sides)
    → InOrder file (length sides) (layout_in file) → Exact RecordEarlier (file_rows file sides) answer
exact_file file sides e laid =
    subst (Exact RecordEarlier (file_rows file sides)) (sym e)
    (exact_refusal record_refusal (file_rows file sides)
    (ascending-++ record_refusal (structure_rows file (length sides)) (record_rows file (layout_in file) sides) (structure_ascends file (length sides))
    (records_ascend file (layout_in file) sides laid) (structure_apart file sides)))
