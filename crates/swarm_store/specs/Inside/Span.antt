-- Rows, and what they were when the changes under way began.
use Rattle.std.specs.Prelude.{ℕ, List}

pub record Span (X : Type 0) : Type 0 where
  pub start : List X
  pub rows : List X

-- and how many of them changed
pub record Track (X : Type 0) : Type 0 where
  pub start : List X
  pub rows : List X
  pub changed : ℕ
