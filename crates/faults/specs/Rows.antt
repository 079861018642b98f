-- A check as a table of rows. A row is a fault and whether the fault is there; the rows stand in the order in which they count.
use Rattle.std.specs.Prelude.{◌≡◌, ℕ, zero, suc, Bool, true, cond, ◌⊎◌, List, [], ◌∷◌, ◌++◌, map, Some, None, Option}

-- the fault of the first row that holds
abbrev pub first : {X : Type 0} → List (X × Bool) → Option X
first [] = None
first (row ∷ rows) = cond row.1 (Some row.0) (first rows)

-- the rows of the items 0 to n − 1, one item after the other
unfoldable pub rows_below : {X : Type 0} → (ℕ → List (X × Bool)) → ℕ → List (X × Bool)
rows_below rows zero = []
rows_below rows (suc n) = rows_below rows n ++ rows n

-- the same rows with their faults named anew, as where one layer's fault is wrapped in another's
abbrev pub renamed : {X Y : Type 0} → (X → Y) → List (X × Bool) → List (Y × Bool)
renamed name rows = map (λ row. (name row.0, row.1)) rows

-- a row of the table holds and has this fault
abbrev pub Holds : {X : Type 0} → List (X × Bool) → X → Type 0
Holds [] fault = ⊥
Holds (row ∷ rows) fault = ((row.0 ≡ fault) × (row.1 ≡ true)) ⊎ Holds rows fault

-- a row of the table holds and has this fault, and no row that holds comes before it
abbrev pub Earliest : {X : Type 0} → (X → X → Type 0) → List (X × Bool) → X → Type 0
Earliest before rows fault = Holds rows fault × ((other : _) → Holds rows other → before other fault → ⊥)

-- The answer of a check, in the words of a table and of the order in which faults count: a fault is answered exactly where its row holds and none
-- before it does, and none is answered only where no row holds.
pub record Exact {X : Type 0} (before : X → X → Type 0) (rows : List (X × Bool)) (answer : Option X) : Type 0 where
  pub none : answer ≡ None → (fault : X) → Holds rows fault → ⊥
  pub some : (fault : X) → answer ≡ Some fault → Earliest before rows fault
  pub only : (fault : X) → Earliest before rows fault → answer ≡ Some fault
