-- Two lists of rows as one.
use Rattle.std.specs.Prelude.{ℕ, ◌≡◌, List, [], ◌∷◌, Option, None, Some, is_some, nat_lt, if◌then◌else◌, true}
use Rattle.swarm_objects.specs.Rows.{IsRising, row_at, with_row}

-- these rows among the others
abbrev pub with_all : {X : Type 0} → (X → ℕ) → List X → List X → List X
with_all key [] rows = rows
with_all key (x ∷ xs) rows = with_row key x (with_all key xs rows)

-- the first, where it is there
abbrev pub first_some : {X : Type 0} → Option X → Option X → Option X
first_some None b = b
first_some (Some a) b = Some a

-- the one with the lesser key
abbrev pub lesser : {X : Type 0} → (X → ℕ) → Option X → Option X → Option X
lesser key None b = b
lesser key (Some x) None = Some x
lesser key (Some x) (Some y) = if nat_lt (key y) (key x) then Some y else Some x

-- no row of the first list has the key of one of the second
abbrev pub AreApart : {X : Type 0} → (X → ℕ) → List X → List X → Type 0
AreApart key xs rows = (i : ℕ) → is_some (row_at key i xs) ≡ true → row_at key i rows ≡ None

-- a table's rows, and those that it refused
pub record IsIndex {X : Type 0} (key : X → ℕ) (table spare : List X) : Type 0 where
  pub table_rises : IsRising key table
  pub spare_rises : IsRising key spare
  pub apart : AreApart key spare table
