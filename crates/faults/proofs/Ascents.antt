-- Tables whose rows stand in the order of their refusals, so that the first row that holds is exactly the earliest.
use Rattle.std.proofs.Common.{◌≡◌, ℕ, zero, suc, ◌+◌, ◌*◌, ◌<◌, ◌≤◌, Bool, ◌⊎◌, List, [], ◌∷◌, ◌++◌, Some, None, Option, refl, subst, inl, inr, mul-suc, arith}
use Rattle.std.specs.Option.{option_map}
use Rattle.faults.specs.declared.answer.Refusal.{Refusal}
use Rattle.faults.specs.Orders.{rank, Earlier}
use Rattle.faults.specs.Rows.{first, renamed, rows_below, Holds, Earliest, Exact}
use Rattle.faults.proofs.Firsts.{Listed, Ascending, listed, no_first, exact}

pub earlier_asym : (a b : Refusal) → Earlier a b → Earlier b a → ⊥
earlier_asym a b p q = grind arith

pub earlier_trans : (a b c : Refusal) → Earlier a b → Earlier b c → Earlier a c
earlier_trans a b c p q = grind arith

-- what holds of each fault that is listed
abbrev pub Each : {X : Type 0} → (X → Type 0) → List (X × Bool) → Type 0
Each P [] = Unit {0}
Each P (row ∷ rows) = P row.0 × Each P rows

pub each_listed : {X : Type 0} (P : X → Type 0) (rows : List (X × Bool)) → Each P rows → (fault : X) → Listed rows fault → P fault
each_listed P [] all fault h = absurd h
each_listed P (row ∷ rows) all fault h = grind (arith, each_listed P rows all.1 fault)

pub each-++ : {X : Type 0} (P : X → Type 0) (xs ys : List (X × Bool)) → Each P xs → Each P ys → Each P (xs ++ ys)
each-++ P [] ys p q = q
each-++ P (x ∷ xs) ys p q = (p.0, each-++ P xs ys p.1 q)

pub each_weaker : {X : Type 0} (P Q : X → Type 0) (rows : List (X × Bool)) → ((x : X) → P x → Q x) → Each P rows → Each Q rows
each_weaker P Q [] f p = tt
each_weaker P Q (row ∷ rows) f p = (f row.0 p.0, each_weaker P Q rows f p.1)

listed-++ : {X : Type 0} (xs ys : List (X × Bool)) (fault : X) → Listed (xs ++ ys) fault → Listed xs fault ⊎ Listed ys fault
listed-++ [] ys fault h = inr h
listed-++ (x ∷ xs) ys fault h = grind (arith, listed-++ xs ys fault)

holds-++ : {X : Type 0} (xs ys : List (X × Bool)) (fault : X) → Holds (xs ++ ys) fault → Holds xs fault ⊎ Holds ys fault
holds-++ [] ys fault h = inr h
holds-++ (x ∷ xs) ys fault h = grind (arith, holds-++ xs ys fault)

holds_left : {X : Type 0} (xs ys : List (X × Bool)) (fault : X) → Holds xs fault → Holds (xs ++ ys) fault
holds_left [] ys fault h = absurd h
holds_left (x ∷ xs) ys fault h = grind (arith, holds_left xs ys fault)

holds_right : {X : Type 0} (xs ys : List (X × Bool)) (fault : X) → Holds ys fault → Holds (xs ++ ys) fault
holds_right [] ys fault h = h
holds_right (x ∷ xs) ys fault h = inr (holds_right xs ys fault h)

module _ {X : Type 0} (refusal : X → Refusal) where
  abbrev pub Before : X → X → Type 0
  Before f g = Earlier (refusal f) (refusal g)

  -- a refusal of this rank, its place from low up to high
  abbrev pub Placed : ℕ → ℕ → ℕ → X → Type 0
  Placed order low high f = (rank (refusal f) ≡ order) × (low ≤ (refusal f).place) × ((refusal f).place < high)

  -- each row comes before the next
  abbrev pub Linked : X → List (X × Bool) → Type 0
  Linked fault [] = Unit {0}
  Linked fault (row ∷ rows) = Before fault row.0 × Linked row.0 rows

  pub ascending_linked : (fault : X) (rows : List (X × Bool)) → Linked fault rows → ((g : X) → Listed rows g → Before fault g) × Ascending Before rows
  ascending_linked fault [] h = (λ g l. absurd l, tt)
  ascending_linked fault (row ∷ rows) h =
      let rest = ascending_linked row.0 rows h.1 in (
        λ g l. grind (arith, h.0, rest.0 g, earlier_trans (refusal fault) (refusal row.0) (refusal g)),
        rest,
      )

  pub ascending-++ : (xs ys : List (X × Bool)) → Ascending Before xs → Ascending Before ys → ((f g : X) → Listed xs f → Listed ys g → Before f g) → Ascending Before (xs ++ ys)
  ascending-++ [] ys p q h = q
  ascending-++ (x ∷ xs) ys p q h = (
    λ g l. grind (arith, listed-++ xs ys g, p.0 g, h x.0 g),
    ascending-++ xs ys p.1 q (λ f g l r. h f g (inr l) r),
  )

  -- two tables of one rank, the places of the first below those of the second
  pub ascending_apart : (order low middle high : ℕ) (xs ys : List (X × Bool)) → Ascending Before xs → Ascending Before ys
      → Each (Placed order low middle) xs → Each (Placed order middle high) ys → Ascending Before (xs ++ ys)
  ascending_apart order low middle high xs ys p q inside past =
      ascending-++ xs ys p q (λ f g l r. grind (arith, each_listed (Placed order low middle) xs inside f, each_listed (Placed order middle high) ys past g))

  -- items that stand one after the other, each of so many bytes
  pub ascending_below : (order start size : ℕ) (rows : ℕ → List (X × Bool)) (n : ℕ) → ((i : ℕ) → Ascending Before (rows i))
      → ((i : ℕ) → Each (Placed order (start + size * i) (start + size * i + size)) (rows i))
      → Ascending Before (rows_below rows n) × Each (Placed order start (start + size * n)) (rows_below rows n)
  unfolding rows_below
  ascending_below order start size rows zero up inside = (tt, tt)
  ascending_below order start size rows (suc n) up inside =
      let before = ascending_below order start size rows n up inside in
      let grown : size * suc n ≡ size * n + size = mul-suc size n in (
        ascending_apart order start (start + size * n) (start + size * n + size) (rows_below rows n) (rows n) before.0 (up n) before.1 (inside n),
        each-++ (Placed order start (start + size * suc n)) (rows_below rows n) (rows n)
            (each_weaker (Placed order start (start + size * n)) (Placed order start (start + size * suc n)) (rows_below rows n) (λ x p. (p.0, p.1, omega arith)) before.1)
            (each_weaker (Placed order (start + size * n) (start + size * n + size)) (Placed order start (start + size * suc n)) (rows n) (λ x p. (p.0, omega arith, omega arith)) (inside n)),
      )

  pub exact_refusal : (rows : List (X × Bool)) → Ascending Before rows → Exact Before rows (first rows)
  exact_refusal rows up = exact Before (λ f g. earlier_asym (refusal f) (refusal g)) rows up

  -- a fault of the first of two tables, all of whose rows come before those of the second, is exactly the earliest of both
  pub exact_front : (xs ys : List (X × Bool)) → Ascending Before xs → ((f g : X) → Listed xs f → Listed ys g → Before f g) → (fault : X) → first xs ≡ Some fault
      → Exact Before (xs ++ ys) (Some fault)
  exact_front xs ys up apart fault e =
      let front = exact_refusal xs up in
      let here = front.some fault e in
      let after : (g : X) → Holds ys g → Before fault g = λ g h. apart fault g (listed xs fault here.0) (listed ys g h) in
      record {
        none = λ is f h. grind arith;
        some = λ f is.
            let same : fault ≡ f = cc in
            subst (Earliest Before (xs ++ ys)) same (
              holds_left xs ys fault here.0,
              λ g h b. grind (arith, holds-++ xs ys g, here.1 g, earlier_asym (refusal fault) (refusal g), after g),
            );
        only = λ f h. grind (arith, holds-++ xs ys f, front.only f, h.1, holds_left xs ys, after f);
      }

-- where no row of the first table holds, the second answers for both
pub exact_behind : {X : Type 0} (before : X → X → Type 0) (xs ys : List (X × Bool)) (answer : Option X) → None ≡ first xs → Exact before ys answer → Exact before (xs ++ ys) answer
exact_behind before xs ys answer none e =
    let right : (f : _) → Holds (xs ++ ys) f → Holds ys f = λ f h. grind (arith, holds-++ xs ys f, no_first xs) in
    record {
      none = λ is f h. e.none is f (right f h);
      some = λ f is. (holds_right xs ys f (e.some f is).0, λ g h. (e.some f is).1 g (right g h));
      only = λ f h. e.only f (right f h.0, λ g m. h.1 g (holds_right xs ys g m));
    }

-- a table whose faults are named anew, the order being the same
module _ {X Y : Type 0} (name : X → Y) (before : Y → Y → Type 0) where
  holds_renamed : (rows : List (X × Bool)) (x : X) → Holds rows x → Holds (renamed name rows) (name x)
  holds_renamed [] x h = h
  holds_renamed (row ∷ rows) x h = grind (arith, holds_renamed rows x)

  named_before : (rows : List (X × Bool)) (y : Y) → Holds (renamed name rows) y → (x : X) × (name x ≡ y) × Holds rows x
  named_before [] y h = absurd h
  named_before (row ∷ rows) y (inl h) = (row.0, h.0, inl (refl, h.1))
  named_before (row ∷ rows) y (inr h) = let found = named_before rows y h in (found.0, found.1, inr found.2)

  pub listed_renamed : (rows : List (X × Bool)) (y : Y) → Listed (renamed name rows) y → (x : X) × (name x ≡ y)
  listed_renamed [] y h = absurd h
  listed_renamed (row ∷ rows) y (inl h) = (row.0, h)
  listed_renamed (row ∷ rows) y (inr h) = listed_renamed rows y h

  pub exact_renamed : (rows : List (X × Bool)) (answer : Option X) → Exact (λ a b. before (name a) (name b)) rows answer → Exact before (renamed name rows) (option_map name answer)
  exact_renamed rows answer e =
      record {
        none = λ is y h. let found = named_before rows y h in e.none (grind arith) found.0 found.2;
        some = λ y is.
            let found = some_name answer y is in
            let here = e.some found.0 found.2 in
            subst (Earliest before (renamed name rows)) found.1 (
              holds_renamed rows found.0 here.0,
              λ z h b. let other = named_before rows z h in grind (arith, here.1 other.0 other.2),
            );
        only = λ y h.
            let found = named_before rows y h.0 in
            let is = e.only found.0 (found.2, λ z m b. grind (arith, h.1 (name z), holds_renamed rows z)) in
            grind arith;
      }
    where
      some_name : (o : Option X) (y : Y) → option_map name o ≡ Some y → (x : X) × (name x ≡ y) × (o ≡ Some x)
      some_name None y is = grind arith
      some_name (Some x) y is = (x, cc, refl)
