-- The lines of an input.
use Rattle.std.specs.Prelude.{ℕ, ◌≡◌, nat_eq, List, [], ◌∷◌, ◌++◌, length, filter, Bool, true, false, if◌then◌else◌}
use Rattle.swarm_input.specs.declared.input.ScriptLine.{ScriptLine}

abbrev pub is_newline : ℕ → Bool
is_newline b = nat_eq b 10

-- a byte before the first line
abbrev pub onto_line : ℕ → List ScriptLine → List ScriptLine
onto_line b [] = record { text = b ∷ []; newline = false } ∷ []
onto_line b (line ∷ lines) = record line { text = b ∷ line.text } ∷ lines

-- each newline ends a line; the last line may lack its own
abbrev pub lines_of : List ℕ → List ScriptLine
lines_of [] = []
lines_of (b ∷ bytes) =
    if is_newline b then record { text = []; newline = true } ∷ lines_of bytes else onto_line b (lines_of bytes)

-- a line's bytes, with its newline
abbrev pub bytes_of : ScriptLine → List ℕ
bytes_of line = if line.newline then line.text ++ 10 ∷ [] else line.text

abbrev pub has_newline : ScriptLine → Bool
has_newline line = line.newline

-- the lines whose newline is there
abbrev pub whole_lines : List ℕ → List ScriptLine
whole_lines bytes = filter has_newline (lines_of bytes)

-- how many lines end in these bytes
abbrev pub line_ends : List ℕ → ℕ
line_ends bytes = length (filter is_newline bytes)

-- the lines of these bytes are those of the bytes with others behind them, and each has its newline
pub record IsWhole (bytes : List ℕ) : Type 0 where
  pub lines : (more : List ℕ) → lines_of (bytes ++ more) ≡ lines_of bytes ++ lines_of more
  pub whole : (more : List ℕ) → whole_lines (bytes ++ more) ≡ lines_of bytes ++ whole_lines more
