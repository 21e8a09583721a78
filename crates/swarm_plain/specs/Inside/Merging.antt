-- Two lists of rows by rising key, gone through together.
use Rattle.std.specs.Bool.{Decides}
use Rattle.std.specs.Prelude.{Bool, ◌≡◌, ℕ, List, [], ◌∷◌, Option, Some, None, ◌==◌, if◌then◌else◌, min}

-- the least key of the first rows
abbrev pub least_key : {X : Type 0} → (X → ℕ) → List X → List X → Option ℕ
least_key key [] [] = None
least_key key [] (y ∷ ys) = Some (key y)
least_key key (x ∷ xs) [] = Some (key x)
least_key key (x ∷ xs) (y ∷ ys) = Some (min (key x) (key y))

-- the first row, where it has this key
abbrev pub head_at : {X : Type 0} → (X → ℕ) → ℕ → List X → Option X
head_at key id [] = None
head_at key id (x ∷ xs) = if key x == id then Some x else None

-- the rows without the first one, where that has this key
abbrev pub rest_at : {X : Type 0} → (X → ℕ) → ℕ → List X → List X
rest_at key id [] = []
rest_at key id (x ∷ xs) = if key x == id then xs else x ∷ xs

-- the test tells whether two rows with one key are equal
abbrev pub DecidesRows : {X : Type 0} → (X → ℕ) → (X → X → Bool) → Type 0
DecidesRows {X} key same = (x y : X) → key x ≡ key y → Decides (same x y) (x ≡ y)
