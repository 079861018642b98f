-- Where no row of the records holds, every number lies within its limits and every contract is right.
use Rattle.std.proofs.Common.{◌≡◌, ℕ, ◌+◌, ◌-◌, ◌*◌, ◌/◌, ◌<◌, ◌≤◌, false, not, ◌||◌, eqb, List, [], ◌∷◌, ◌++◌, length, get_or, IfOk, None, Ok, Err, Result, ap, subst, arith}
use Rattle.std.proofs.lemmas.Int.{ints}
use Rattle.std.proofs.lemmas.Bool.{or_parts}
use Rattle.std.proofs.lemmas.Bool.Decides.{nat_tests}
use Rattle.std.specs.Result.{result_err}
use Rattle.faults.specs.Rows.{first}
use Rattle.faults.specs.declared.causes.Section.TheVariants.{Quantities, NodePrices, Contracts}
use Rattle.faults.specs.declared.causes.RecordFault.{RecordFault}
use Rattle.faults.specs.declared.causes.RecordFault.TheVariants.{PartyCount}
use Rattle.faults.proofs.Firsts.{all_clear, below_clear, first_parts}
use Rattle.market.specs.declared.kinds.Side.{Side}
use Rattle.market.specs.declared.kinds.Side.TheVariants.{Seller, Buyer}
use Rattle.market.specs.declared.records.Contract.{Contract}
use Rattle.dayfile.specs.declared.parts.Layout.{Layout}
use Rattle.dayfile.specs.Bytes.{byte_at}
use Rattle.dayfile.specs.Records.{item_at, item_rows, part_rows, record_rows, check_rows, quantity_rows, price_rows, contract_row, contract_in, line_in, side_at, wrong_parties, wrong_terms}
use Rattle.dayfile.specs.Accepted.{RightLine, RightContract, Accepted}

-- a line of which no row holds
right_line : (file : List ℕ) (layout : Layout) (side : Side) (line : ℕ) → None ≡ first (quantity_rows file side (item_at layout Quantities line))
    → None ≡ first (price_rows file side (item_at layout NodePrices line)) → RightLine side (line_in file layout side line)
right_line file layout Seller line q p = grind (arith, ints, nat_tests)
right_line file layout Buyer line q p = grind (arith, ints, nat_tests)

right_terms : (sides : List Side) (contract : Contract) → wrong_parties sides contract.seller contract.buyer ≡ false → wrong_terms contract ≡ false → RightContract sides contract
right_terms sides contract parties terms = grind (arith, ints, nat_tests)

right_contract : (file : List ℕ) (sides : List Side) (at : ℕ) → None ≡ first (contract_row file sides at) → RightContract sides (contract_in file at)
right_contract file sides at e =
    let contract = contract_in file at in
    let rules = or_parts (wrong_parties sides contract.seller contract.buyer || not (eqb (byte_at file (at + 3)) 0)) (wrong_terms contract) (all_clear (contract_row file sides at) e).0 in
    right_terms sides contract (or_parts (wrong_parties sides contract.seller contract.buyer) (not (eqb (byte_at file (at + 3)) 0)) rules.0).0 rules.1

-- the side of the party to whom a line belongs
line_side : (sides : List Side) (party hour : ℕ) → 1 ≤ hour → hour ≤ 24 → side_at sides (24 * party + (hour - 1)) ≡ get_or sides party Seller
line_side sides party hour low high = ap (λ p. get_or sides p Seller) (let e : (24 * party + (hour - 1)) / 24 ≡ party = omega arith in e)

pub accepted : (file : List ℕ) (layout : Layout) (sides : List Side) → None ≡ first (record_rows file layout sides) → Accepted file layout sides
unfolding record_rows
accepted file layout sides none =
    let halves = first_parts (part_rows file layout sides Quantities ++ part_rows file layout sides NodePrices) (part_rows file layout sides Contracts) none in
    let front = first_parts (part_rows file layout sides Quantities) (part_rows file layout sides NodePrices) halves.0 in
    record {
      lines = λ party hour there low high.
          let line = 24 * party + (hour - 1) in
          let lt : line < 24 * length sides = omega arith in
          subst (λ side. RightLine side (line_in file layout side line)) (line_side sides party hour low high)
          (right_line file layout (side_at sides line) line (below_clear (item_rows file layout sides Quantities) (24 * length sides) line lt front.0)
          (below_clear (item_rows file layout sides NodePrices) (24 * length sides) line lt front.1));
      contracts = λ k there.
          right_contract file sides (item_at layout Contracts k) (below_clear (item_rows file layout sides Contracts) layout.contract_count k there halves.1);
    }

-- where the check of the records lets a file pass
pub passed : {T : Type 0} (file : List ℕ) (parties : ℕ) (layout : Layout) (sides : List Side) (answer : Result T RecordFault)
    → result_err answer ≡ first (check_rows file parties layout sides) → IfOk answer (λ _. Accepted file layout sides)
passed file parties layout sides (Ok _) e = accepted file layout sides (first_parts ((PartyCount, not (eqb parties (length sides))) ∷ []) (record_rows file layout sides) e).1
passed file parties layout sides (Err _) e = tt
