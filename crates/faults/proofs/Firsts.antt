-- Lemmas on the first row that holds.
use Rattle.std.proofs.Common.{◌≡◌, ℕ, zero, suc, ◌+◌, ◌<◌, ◌≤◌, Bool, true, false, ◌⊎◌, List, [], ◌∷◌, ◌++◌, Some, None, refl, inr, add-one, arith}
use Rattle.std.specs.Option.{option_or, option_map}
use Rattle.faults.specs.Rows.{first, renamed, rows_below, Holds, Earliest, Exact}

-- the first of two tables, one after the other
pub first-++ : {X : Type 0} (xs ys : List (X × Bool)) → first (xs ++ ys) ≡ option_or (first xs) (first ys)
first-++ [] ys = refl
first-++ ((f, true) ∷ xs) ys = refl
first-++ ((f, false) ∷ xs) ys = first-++ xs ys

-- the first of a table after the faults are named anew
pub first_map : {X Y : Type 0} (f : X → Y) (rows : List (X × Bool)) → first (renamed f rows) ≡ option_map f (first rows)
first_map f [] = refl
first_map f ((x, true) ∷ rows) = refl
first_map f ((x, false) ∷ rows) = first_map f rows

pub below_none : {X : Type 0} (rows : ℕ → List (X × Bool)) → first (rows_below rows 0) ≡ None
unfolding rows_below
below_none rows = refl

-- the rows of one item more
below_suc : {X : Type 0} (rows : ℕ → List (X × Bool)) (n : ℕ) → first (rows_below rows (suc n)) ≡ option_or (first (rows_below rows n)) (first (rows n))
unfolding rows_below
below_suc rows n = first-++ (rows_below rows n) (rows n)

-- one item more where none before it is at fault
pub below_more : {X : Type 0} (rows : ℕ → List (X × Bool)) (n : ℕ) → first (rows_below rows n) ≡ None → first (rows_below rows (suc n)) ≡ first (rows n)
below_more rows n e = grind (arith, below_suc)

-- a fault among the first items is the first fault of all
pub below_stays : {X : Type 0} (rows : ℕ → List (X × Bool)) (m n : ℕ) (fault : X) → m ≤ n → first (rows_below rows m) ≡ Some fault → first (rows_below rows n) ≡ Some fault
below_stays rows m zero fault h e = grind arith
below_stays rows m (suc n) fault h e = grind (arith, below_suc, below_stays rows m n fault)

-- a fault found at item i, with none before it
pub below_found : {X : Type 0} (rows : ℕ → List (X × Bool)) (i n : ℕ) (fault : X) → i < n → first (rows_below rows i) ≡ None → first (rows i) ≡ Some fault
    → first (rows_below rows n) ≡ Some fault
below_found rows i n fault h none found = grind (arith, below_more, below_stays rows (suc i) n fault)

-- the same for a loop that goes up by one: a step past an item that is not at fault
pub below_step : {X : Type 0} (rows : ℕ → List (X × Bool)) (i : ℕ) → first (rows_below rows i) ≡ None → first (rows i) ≡ None → first (rows_below rows (i + 1)) ≡ None
below_step rows i none here = rw add-one (grind (arith, below_more))

-- where no row of two tables holds, none of either does
pub first_parts : {X : Type 0} (xs ys : List (X × Bool)) → None ≡ first (xs ++ ys) → (None ≡ first xs) × (None ≡ first ys)
first_parts xs ys e = grind (arith, first-++)

-- where no row of the items below n holds, none of any of them does
pub below_clear : {X : Type 0} (rows : ℕ → List (X × Bool)) (n i : ℕ) → i < n → None ≡ first (rows_below rows n) → None ≡ first (rows i)
below_clear rows zero i h e = absurd (omega arith)
below_clear rows (suc n) i h e = grind (arith, below_suc, below_clear rows n i)

-- no row holds
abbrev pub Clear : {X : Type 0} → List (X × Bool) → Type 0
Clear [] = Unit {0}
Clear (row ∷ rows) = (row.1 ≡ false) × Clear rows

pub all_clear : {X : Type 0} (rows : List (X × Bool)) → None ≡ first rows → Clear rows
all_clear [] e = tt
all_clear (row ∷ rows) e = grind (arith, all_clear rows)

-- a row of the table has this fault, whether it holds or not
abbrev pub Listed : {X : Type 0} → List (X × Bool) → X → Type 0
Listed [] fault = ⊥
Listed (row ∷ rows) fault = (row.0 ≡ fault) ⊎ Listed rows fault

-- each row comes before each later one
abbrev pub Ascending : {X : Type 0} → (X → X → Type 0) → List (X × Bool) → Type 0
Ascending before [] = Unit {0}
Ascending {X} before (row ∷ rows) = ((g : X) → Listed rows g → before row.0 g) × Ascending before rows

pub listed : {X : Type 0} (rows : List (X × Bool)) (fault : X) → Holds rows fault → Listed rows fault
listed [] fault h = h
listed (row ∷ rows) fault h = grind (arith, listed rows)

pub no_first : {X : Type 0} (rows : List (X × Bool)) → first rows ≡ None → (fault : X) → Holds rows fault → ⊥
no_first [] e fault h = h
no_first (row ∷ rows) e fault h = grind (arith, no_first rows)

module _ {X : Type 0} (before : X → X → Type 0) (asym : (f g : X) → before f g → before g f → ⊥) where
  some_first : (rows : List (X × Bool)) → Ascending before rows → (fault : X) → first rows ≡ Some fault → Earliest before rows fault
  some_first [] up fault e = grind arith
  some_first ((f, true) ∷ rows) up fault e = (grind arith, λ other h b. grind (arith, listed rows, asym))
  some_first ((f, false) ∷ rows) up fault e = let rest = some_first rows up.1 fault e in (inr rest.0, λ other h b. grind (arith, rest.1 other))

  only_first : (rows : List (X × Bool)) → Ascending before rows → (fault : X) → Earliest before rows fault → first rows ≡ Some fault
  only_first [] up fault h = absurd h.0
  only_first ((f, true) ∷ rows) up fault h = grind (arith, listed rows)
  only_first ((f, false) ∷ rows) up fault h = grind (arith, only_first rows up.1)

  -- the first row of an ascending table is exactly the earliest
  pub exact : (rows : List (X × Bool)) → Ascending before rows → Exact before rows (first rows)
  exact rows up = record { none = no_first rows; some = some_first rows up; only = only_first rows up }
