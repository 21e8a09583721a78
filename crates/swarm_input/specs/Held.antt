-- The bytes that were taken from a source and not yet given, and how a line is cut off them.
use Rattle.std.specs.Prelude.{ℕ, List, Bool, Option, ◌≡◌, ◌+◌, ◌++◌, [], ◌∷◌, false, Some, None, ◌<◌, take, drop, length, not, ◌||◌, is_some}
use Rattle.std.specs.Io.KnownBytes.{prepend_known, Consumes}
use Rattle.std.specs.List.{list_any}
use Rattle.swarm_input.specs.Lines.{is_newline, bytes_of}
use Rattle.swarm_input.specs.declared.input.ScriptLine.{ScriptLine}

pub record HeldBytes : Type 0 where
  -- taken from the source, and no line's yet
  pub bytes : List ℕ
  -- a line without newline was given, which is the last
  pub finished : Bool

-- what is still to be read, where the source tells what it has left
abbrev pub unread : HeldBytes → Option (List ℕ) → Option (List ℕ)
unread held left = prepend_known held.bytes left

-- bytes were taken, and all of them are held
pub record TakesMore (old new : HeldBytes) (left left_after : Option (List ℕ)) : Type 0 where
  pub taken : List ℕ
  pub source : Consumes left left_after taken
  pub bytes : new.bytes ≡ old.bytes ++ taken
  pub finished : new.finished ≡ old.finished

abbrev pub has_newline_in : List ℕ → Bool
has_newline_in bytes = list_any is_newline bytes

-- their first newline stands at this place
pub record IsNewlineAt (bytes : List ℕ) (at : ℕ) : Type 0 where
  pub inside : at < length bytes
  pub newline : bytes ≡ take at bytes ++ 10 ∷ drop (at + 1) bytes
  pub one : has_newline_in (take at bytes) ≡ false

-- how many of so many bytes are the next line's, by the place of its newline
abbrev pub line_size : ℕ → Option ℕ → ℕ
line_size held None = held
line_size held (Some at) = at + 1

-- a line's bytes are the first of the held ones
pub record CutsBytes (old new : HeldBytes) (place : Option ℕ) (bytes : List ℕ) : Type 0 where
  pub line : ScriptLine
  pub bytes_is : bytes ≡ bytes_of line
  pub held : old.bytes ≡ bytes_of line ++ new.bytes
  pub one : has_newline_in line.text ≡ false
  pub newline : line.newline ≡ is_some place
  pub size : length bytes ≡ line_size (length old.bytes) place
  pub last : line.newline ≡ false → new.bytes ≡ []
  pub finished : new.finished ≡ (old.finished || not line.newline)
  pub some : 0 < length bytes

-- a line was cut off at its newline, or the last line where there is none, or there is no line
abbrev pub CutsNext : HeldBytes → HeldBytes → Option ℕ → Option (List ℕ) → Type 0
CutsNext old new place None = (new ≡ old) × (old.bytes ≡ []) × (place ≡ None)
CutsNext old new place (Some bytes) = CutsBytes old new place bytes
