-- What writers of texts answer.
use Rattle.std.specs.Prelude.{ℕ, ◌≡◌, List, ◌++◌, OnOk, Result, String, string_bytes}

-- the piece was put behind the old text
abbrev pub Puts : {Z T E : Type 0} → Result T E → String Z → String Z → List ℕ → Type 0
Puts result old new piece = OnOk result (string_bytes new ≡ string_bytes old ++ piece)
