-- Lemmas on the scheduler's check: the letters answer first, then the file.
use Rattle.std.proofs.Common.{◌≡◌, ℕ, ◌<◌, ◌≤◌, List, map, Some, None, Option, sym, ap, ◌∙◌, subst, inl, arith, lit≤}
use Rattle.std.specs.Option.{option_or, option_map}
use Rattle.faults.specs.Orders.{rank, RecordEarlier, MonthEarlier}
use Rattle.faults.specs.Refusals.{record_refusal, month_refusal}
use Rattle.faults.specs.Rows.{first, renamed, Exact}
use Rattle.faults.specs.declared.causes.FileFault.TheVariants.{TooShort, WrongByte, OutOfOrder, WrongLength}
use Rattle.faults.specs.declared.causes.RecordFault.{RecordFault}
use Rattle.faults.specs.declared.causes.RecordFault.TheVariants as records
use Rattle.faults.specs.declared.causes.MonthFault.{MonthFault}
use Rattle.faults.specs.declared.causes.MonthFault.TheVariants.{Record}
use Rattle.faults.proofs.Firsts.{first-++, first_map, Listed}
use Rattle.faults.proofs.Ascents.{each_listed, exact_front, exact_behind, exact_renamed, listed_renamed}
use Rattle.market.specs.Letters.{letter_of, letter_rows, sides_named}
use Rattle.market.proofs.Naming.{letters_ascend, letters_rank, sides_named_lem}
use Rattle.market.specs.declared.kinds.Side.{Side}
use Rattle.dayfile.specs.Records.{file_rows}
use Rattle.scheduler.specs.Check.{day_rows}

-- the number of a file's or a record's fault is 11 or more
high : (fault : RecordFault) → 11 ≤ rank (record_refusal fault)
high (records.File (TooShort _)) = lit≤ tt
high (records.File (WrongByte _)) = lit≤ tt
high (records.File (OutOfOrder _)) = lit≤ tt
high (records.File (WrongLength _)) = lit≤ tt
high records.PartyCount = lit≤ tt
high (records.BeyondLimits _) = lit≤ tt
high (records.BuyerPrice _) = lit≤ tt
high (records.Contract _) = lit≤ tt

-- the letters' rows come before the file's
apart : (file letters : List ℕ) (f g : MonthFault) → Listed (letter_rows letters) f → Listed (renamed Record (file_rows file (sides_named letters))) g → MonthEarlier f g
apart file letters f g l r =
    let low : rank (month_refusal f) < 11 = each_listed (λ x. rank (month_refusal x) < 11) (letter_rows letters) (letters_rank letters) f l in
    let found = listed_renamed Record MonthEarlier (file_rows file (sides_named letters)) g r in
    subst (MonthEarlier f) found.1 (inl (let h : 11 ≤ rank (record_refusal found.0) = high found.0 in omega arith))

-- a fault of the letters is the day's, and exactly the earliest
pub by_letters : (file letters : List ℕ) (fault : MonthFault) → Some fault ≡ first (letter_rows letters) → Some fault ≡ first (day_rows file letters)
unfolding day_rows
by_letters file letters fault e =
    sym (first-++ (letter_rows letters) (renamed Record (file_rows file (sides_named letters))) ∙ ap (λ o. option_or o (first (renamed Record (file_rows file (sides_named letters))))) (sym e))

pub exact_letters : (file letters : List ℕ) (fault : MonthFault) → Some fault ≡ first (letter_rows letters) → Exact MonthEarlier (day_rows file letters) (Some fault)
unfolding day_rows
exact_letters file letters fault e =
    exact_front month_refusal (letter_rows letters) (renamed Record (file_rows file (sides_named letters))) (letters_ascend letters) (apart file letters) fault (sym e)

-- where the letters have none, the file's answer is the day's
pub by_file : (file letters : List ℕ) (sides : List Side) (answer : Option RecordFault) → map letter_of sides ≡ letters → None ≡ first (letter_rows letters) → answer ≡ first (file_rows file sides)
    → Exact RecordEarlier (file_rows file sides) answer
    → (option_map Record answer ≡ first (day_rows file letters)) × Exact MonthEarlier (day_rows file letters) (option_map Record answer)
unfolding day_rows
by_file file letters sides answer named none e law =
    let same = sides_named_lem sides letters named in
    let rows = file_rows file (sides_named letters) in (
      ap (option_map Record) (e ∙ ap (λ s. first (file_rows file s)) same) ∙ sym (first_map Record rows)
          ∙ sym (first-++ (letter_rows letters) (renamed Record rows) ∙ ap (λ o. option_or o (first (renamed Record rows))) (sym none)),
      exact_behind MonthEarlier (letter_rows letters) (renamed Record rows) (option_map Record answer) none
          (exact_renamed Record MonthEarlier rows answer (subst (λ s. Exact RecordEarlier (file_rows file s) answer) same law)),
    )
