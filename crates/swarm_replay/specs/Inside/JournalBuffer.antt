-- What a reader of a journal's lines holds of its source, and what one of its steps does.
use Rattle.std.specs.Prelude.{ℕ, List, Option, ◌≡◌, [], true, false, ◌⊎◌, Some, None, ⊤, ◌∷◌, ◌≤◌, ◌<◌, length, Result, Ok, Err, not}
use Rattle.std.specs.Io.KnownBytes.{prepend_known, IsAtEnd}
use Rattle.swarm_input.specs.Lines.{bytes_of, lines_of}
use Rattle.swarm_input.specs.Held.{HeldBytes, IsNewlineAt, TakesMore, has_newline_in, unread}
use Rattle.swarm_input.specs.LineBuffer.{IsNothingLeft, ReadsLine}
use Rattle.swarm_objects.specs.Limits.{longest_entry}
use Rattle.swarm_replay.specs.declared.entry_lines.Stop.{Stop}
use Rattle.swarm_replay.specs.declared.entry_lines.Stop.TheVariants.{Failed, Long, NoMemory}
use Rattle.swarm_input.specs.declared.input.ScriptLine.{ScriptLine}

-- the next line has more bytes than a line may have
pub record IsLongNext (old : List ℕ) : Type 0 where
  pub line : ScriptLine
  pub more : List ScriptLine
  pub lines : lines_of old ≡ line ∷ more
  pub long : longest_entry < length (bytes_of line)

abbrev pub BeginsTooLong : Option (List ℕ) → Type 0
BeginsTooLong None = ⊤
BeginsTooLong (Some old) = IsLongNext old

-- the next line's newline stands at this place of the held bytes, and the line isn't too long
pub record EndsAt (bytes : List ℕ) (at : ℕ) : Type 0 where
  pub ends : IsNewlineAt bytes at
  pub short : at < longest_entry

-- what is held is the beginning of a line that isn't too long so far
pub record IsBegun (bytes : List ℕ) : Type 0 where
  pub none : has_newline_in bytes ≡ false
  pub short : length bytes ≤ longest_entry

-- what was seen of the next line
abbrev pub SeesLine : List ℕ → Result (Option ℕ) Stop → Type 0
SeesLine bytes (Ok (Some at)) = EndsAt bytes at
SeesLine bytes (Ok None) = IsBegun bytes
SeesLine bytes (Err Long) = (left : Option (List ℕ)) → BeginsTooLong (prepend_known bytes left)
SeesLine bytes (Err Failed) = ⊥
SeesLine bytes (Err NoMemory) = ⊥

-- the next line's newline is at hand, or the source is at its end and the last line has none
abbrev pub FindsEnd : HeldBytes → Option (List ℕ) → Option ℕ → Type 0
FindsEnd held left (Some at) = EndsAt held.bytes at
FindsEnd held left None = IsBegun held.bytes × IsAtEnd left

-- a stop says this, where that is to be read and this is held now
abbrev pub MeansStop : Stop → Option (List ℕ) → HeldBytes → Type 0
MeansStop Long old new = BeginsTooLong old
MeansStop Failed old new = (has_newline_in new.bytes ≡ false) × (new.finished ≡ false)
MeansStop NoMemory old new = ⊤

-- a fault of the source or of memory
abbrev pub IsOfSource : Stop → Type 0
IsOfSource Long = ⊥
IsOfSource Failed = ⊤
IsOfSource NoMemory = ⊤

-- the bytes of a line were given
pub record GivesBytes (old new : HeldBytes) (left left_after : Option (List ℕ)) (bytes : List ℕ) : Type 0 where
  pub line : ScriptLine
  pub bytes_is : bytes ≡ bytes_of line
  pub reads : ReadsLine (unread old left) (unread new left_after) line
  pub unfinished : old.finished ≡ false
  pub finished : new.finished ≡ not line.newline
  pub short : length bytes ≤ longest_entry
  pub some : 0 < length bytes

-- the next line was given, or there is none
abbrev pub GivesNext : HeldBytes → HeldBytes → Option (List ℕ) → Option (List ℕ) → Option (List ℕ) → Type 0
GivesNext old new left left_after (Some bytes) = GivesBytes old new left left_after bytes
GivesNext old new left left_after None =
    TakesMore old new left left_after × (old.finished ≡ false → IsNothingLeft (unread old left))

-- the last line was given, or nothing is held at the end of the source
abbrev pub HasNoMore : HeldBytes → HeldBytes → Option (List ℕ) → Type 0
HasNoMore old new left_after = (old.finished ≡ true) ⊎ ((new.bytes ≡ []) × IsAtEnd left_after)
