-- The entries of a map by number.
use Rattle.std.specs.Prelude.{ℕ}

-- the number at which it lies
abbrev pub entry_key : {V : Type 0} → ℕ × V → ℕ
entry_key e = e.0
