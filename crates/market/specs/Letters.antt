-- Kind letters: S (code 83) names a seller, B (code 66) a buyer.
use Rattle.std.specs.Prelude.{ℕ, Bool, cond, not, ◌||◌, List, [], ◌∷◌, length, Ok, Err, Result, ◌==◌, nat_lt, slice_index}
use Rattle.faults.specs.declared.causes.MonthFault.{MonthFault}
use Rattle.faults.specs.declared.causes.MonthFault.TheVariants.{PartyCount, Letter}
use Rattle.faults.specs.Rows.{rows_below}
use Rattle.market.specs.declared.kinds.Side.{Side}
use Rattle.market.specs.declared.kinds.Side.TheVariants.{Seller, Buyer}

abbrev pub letter_of : Side → ℕ
letter_of Seller = 83
letter_of Buyer = 66

-- no side has this letter
abbrev pub unknown : ℕ → Bool
unknown letter = not (letter == letter_of Seller || letter == letter_of Buyer)

abbrev pub side_of : ℕ → ℕ → Result Side MonthFault
side_of letter index = cond (letter == letter_of Seller) (Ok Seller) (cond (letter == letter_of Buyer) (Ok Buyer) (Err (Letter index)))

-- the row of the letter at an index
abbrev pub letter_row : List ℕ → ℕ → List (MonthFault × Bool)
letter_row letters index = (Letter index, unknown (slice_index letters index)) ∷ []

-- the rows of kind letters: their number is 1 to 64, and each names a side
unfoldable pub letter_rows : List ℕ → List (MonthFault × Bool)
letter_rows letters = (PartyCount, nat_lt (length letters) 1 || nat_lt 64 (length letters)) ∷ rows_below (letter_row letters) (length letters)

-- the sides that letters name, where each names one
abbrev pub sides_named : List ℕ → List Side
sides_named [] = []
sides_named (letter ∷ letters) = cond (letter == letter_of Seller) Seller Buyer ∷ sides_named letters
