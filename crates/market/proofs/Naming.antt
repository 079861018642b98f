-- Lemmas on letters and the sides that they name.
use Rattle.std.proofs.Common.{◌≡◌, ℕ, ◌+◌, ◌*◌, ◌<◌, ◌≤◌, false, ◌⊎◌, List, [], ◌∷◌, map, length, get_or, take, set, Some, None, Ok, Err, Option, refl, ap, ◌∙◌, arith, lit<}
use Rattle.std.proofs.lemmas.List.{take_more, take_more_set, map-append}
use Rattle.std.proofs.lemmas.Bool.Decides.{nat_tests}
use Rattle.faults.specs.declared.causes.MonthFault.{MonthFault}
use Rattle.faults.specs.declared.causes.MonthFault.TheVariants.{PartyCount}
use Rattle.faults.specs.Orders.{rank, MonthEarlier}
use Rattle.faults.specs.Refusals.{month_refusal}
use Rattle.faults.specs.Rows.{first, rows_below, Exact}
use Rattle.faults.proofs.Ascents.{Each, Placed, each_listed, each_weaker, ascending_below, exact_refusal}
use Rattle.faults.proofs.Firsts.{Ascending}
use Rattle.market.specs.declared.kinds.Side.{Side}
use Rattle.market.specs.Letters.{letter_of, letter_row, letter_rows, side_of, sides_named, unknown}

-- a letter that names a side is that side's letter, and is known
pub named : (letter index : ℕ) (side : Side) → Ok side ≡ side_of letter index → (letter_of side ≡ letter) × (unknown letter ≡ false)
named letter index side e = grind (arith, nat_tests)

-- the row of a letter that names a side does not hold
pub known : (letters : List ℕ) (i letter : ℕ) (side : Side) → letter ≡ get_or letters i 0 → Ok side ≡ side_of letter i → first (letter_row letters i) ≡ None
known letters i letter side at e = grind (arith, nat_tests)

-- the row of a letter that names none holds
pub told : (letters : List ℕ) (i letter : ℕ) (fault : MonthFault) → letter ≡ get_or letters i 0 → Err fault ≡ side_of letter i → first (letter_row letters i) ≡ Some fault
told letters i letter fault at e = grind (arith, nat_tests)

-- one letter more
pub named_more : (sides : List Side) (letters : List ℕ) (i letter : ℕ) (side : Side) → i < length sides → i < length letters
    → map letter_of (take i sides) ≡ take i letters → letter ≡ get_or letters i 0 → Ok side ≡ side_of letter i
    → map letter_of (take (i + 1) (set sides i side)) ≡ take (i + 1) letters
named_more sides letters i letter side h k so_far at e = grind (arith, take_more_set, take_more letters i 0, map-append, named letter i side)

-- as many letters as a month can have parties: the letters decide
pub counted : (letters : List ℕ) → 1 ≤ length letters → length letters ≤ 64 → first (letter_rows letters) ≡ first (rows_below (letter_row letters) (length letters))
unfolding letter_rows
counted letters some few = grind (arith, nat_tests)

-- too few or too many letters
pub miscounted : (letters : List ℕ) → (length letters < 1) ⊎ (64 < length letters) → Some PartyCount ≡ first (letter_rows letters)
unfolding letter_rows
miscounted letters h = grind (arith, nat_tests)

-- the rows stand in the order of their refusals
letters_placed : (letters : List ℕ) → Ascending MonthEarlier (rows_below (letter_row letters) (length letters))
    × Each (Placed month_refusal 3 0 (0 + 1 * length letters)) (rows_below (letter_row letters) (length letters))
letters_placed letters =
    ascending_below month_refusal 3 0 1 (letter_row letters) (length letters) (λ i. (λ g l. absurd l, tt)) (λ i. ((refl, omega arith, omega arith), tt))

pub letters_ascend : (letters : List ℕ) → Ascending MonthEarlier (letter_rows letters)
unfolding letter_rows
letters_ascend letters =
    let placed = letters_placed letters in
    (λ g l. grind (arith, each_listed (Placed month_refusal 3 0 (0 + 1 * length letters)) (rows_below (letter_row letters) (length letters)) placed.1 g), placed.0)

pub letters_rank : (letters : List ℕ) → Each (λ f. rank (month_refusal f) < 11) (letter_rows letters)
unfolding letter_rows
letters_rank letters = (
  lit< tt,
  each_weaker (Placed month_refusal 3 0 (0 + 1 * length letters)) (λ f. rank (month_refusal f) < 11) (rows_below (letter_row letters) (length letters)) (λ f p. omega arith) (letters_placed letters).1,
)

-- so the first that holds is exactly the earliest
pub exact_letters : (letters : List ℕ) {answer : Option MonthFault} → answer ≡ first (letter_rows letters) → Exact MonthEarlier (letter_rows letters) answer
exact_letters letters e = rw e (exact_refusal month_refusal (letter_rows letters) (letters_ascend letters))

-- sides with these letters are the sides that the letters name
pub sides_named_lem : (sides : List Side) (letters : List ℕ) → map letter_of sides ≡ letters → sides ≡ sides_named letters
sides_named_lem sides letters e = back sides ∙ ap sides_named e
  where
    back : (sides : List Side) → sides ≡ sides_named (map letter_of sides)
    back [] = refl
    back (side ∷ sides) = grind (arith, back sides)
