-- What contracts see of an index.
use Rattle.std.specs.Prelude.{ℕ, List}

-- rows by rising id, and how many of them may still come without want of memory
pub record RowsWithRoom (X : Type 0) : Type 0 where
  pub rows : List X
  pub room : ℕ
