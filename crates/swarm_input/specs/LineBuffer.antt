-- What a reader of lines holds of its source, and what one of its steps does.
use Rattle.std.specs.Prelude.{ℕ, List, Bool, Option, ◌≡◌, ◌+◌, ◌++◌, [], false, Some, None, ⊤, Err, ◌∷◌, ◌≤◌, ◌<◌, length, Result, Ok, not, ◌||◌}
use Rattle.std.specs.Io.KnownBytes.{prepend_known, Consumes, IsAtEnd}
use Rattle.swarm_objects.specs.Limits.{longest_line}
use Rattle.swarm_input.specs.Lines.{bytes_of, lines_of}
use Rattle.swarm_input.specs.Held.{IsNewlineAt, has_newline_in}
use Rattle.swarm_input.specs.declared.input.ScriptLine.{ScriptLine}
use Rattle.swarm_input.specs.Script.{meaning_at, most_bytes}
use Rattle.swarm_input.specs.declared.faults.Fault.{Fault}
use Rattle.swarm_input.specs.declared.input.ReadFault.{ReadFault}
use Rattle.swarm_input.specs.declared.input.ReadFault.TheVariants.{Failed, Bad, NoMemory}

pub record LineBuffer : Type 0 where
  -- taken from the source, and no line's yet
  pub bytes : List ℕ
  -- the size of the lines that were given
  pub read : ℕ
  -- a line without newline was given, which is the last
  pub finished : Bool

-- what is still to be read, where the source tells what it has left
abbrev pub to_read : LineBuffer → Option (List ℕ) → Option (List ℕ)
to_read held left = prepend_known held.bytes left

-- bytes were taken, and all of them are held
pub record TakesOn (old new : LineBuffer) (left left_after : Option (List ℕ)) : Type 0 where
  pub taken : List ℕ
  pub source : Consumes left left_after taken
  pub bytes : new.bytes ≡ old.bytes ++ taken
  pub read : new.read ≡ old.read
  pub finished : new.finished ≡ old.finished

-- the line is the next one, where this is to be read and that is left of it
pub record IsNextLine (old new : List ℕ) (line : ScriptLine) : Type 0 where
  pub bytes : old ≡ bytes_of line ++ new
  pub one : has_newline_in line.text ≡ false
  pub last : line.newline ≡ false → new ≡ []

abbrev pub ReadsLine : Option (List ℕ) → Option (List ℕ) → ScriptLine → Type 0
ReadsLine None new line = ⊤
ReadsLine (Some old) None line = ⊥
ReadsLine (Some old) (Some new) line = IsNextLine old new line

abbrev pub IsNothingLeft : Option (List ℕ) → Type 0
IsNothingLeft None = ⊤
IsNothingLeft (Some old) = old ≡ []

-- the next line is outside the grammar, by a fault that shows before its end
pub record IsBadNext (read : ℕ) (old : List ℕ) (fault : Fault) : Type 0 where
  pub line : ScriptLine
  pub more : List ScriptLine
  pub lines : lines_of old ≡ line ∷ more
  pub meaning : meaning_at read line ≡ Err fault

abbrev pub BeginsBad : ℕ → Option (List ℕ) → Fault → Type 0
BeginsBad read None fault = ⊤
BeginsBad read (Some old) fault = IsBadNext read old fault

-- a fault says this, where so much was read, that is to be read and this is held now
abbrev pub MeansFault : ReadFault → ℕ → Option (List ℕ) → LineBuffer → Type 0
MeansFault (Bad fault) read old new = BeginsBad read old fault
MeansFault Failed read old new = (has_newline_in new.bytes ≡ false) × (new.finished ≡ false)
MeansFault NoMemory read old new = ⊤

-- the next line's newline stands at this place of the held bytes, and the line is within the limits
pub record IsLineAt (held : LineBuffer) (at : ℕ) : Type 0 where
  pub ends : IsNewlineAt held.bytes at
  pub short : at ≤ longest_line
  pub within : held.read + (at + 1) ≤ most_bytes

-- what is held is the beginning of a line that is within the limits so far
pub record IsOpen (held : LineBuffer) : Type 0 where
  pub none : has_newline_in held.bytes ≡ false
  pub short : length held.bytes ≤ longest_line
  pub within : held.read + length held.bytes ≤ most_bytes

-- what was seen of the next line
abbrev pub SeesNext : LineBuffer → Result (Option ℕ) ReadFault → Type 0
SeesNext held (Ok (Some at)) = IsLineAt held at
SeesNext held (Ok None) = IsOpen held
SeesNext held (Err (Bad fault)) = (left : Option (List ℕ)) → BeginsBad held.read (to_read held left) fault
SeesNext held (Err Failed) = ⊥
SeesNext held (Err NoMemory) = ⊥

-- a fault of the source or of memory
abbrev pub IsNotBad : ReadFault → Type 0
IsNotBad (Bad fault) = ⊥
IsNotBad Failed = ⊤
IsNotBad NoMemory = ⊤

-- the next line's newline is at hand, or the source is at its end and the last line has none
abbrev pub HasFound : LineBuffer → Option (List ℕ) → Option ℕ → Type 0
HasFound held left (Some at) = IsLineAt held at
HasFound held left None = IsOpen held × IsAtEnd left

-- this line was given, which is within the limits
pub record GivesLine (old new : LineBuffer) (left left_after : Option (List ℕ)) (line : ScriptLine) : Type 0 where
  pub reads : ReadsLine (to_read old left) (to_read new left_after) line
  pub unfinished : old.finished ≡ false
  pub finished : new.finished ≡ not line.newline
  pub short : length line.text ≤ longest_line
  pub read : new.read ≡ old.read + length (bytes_of line)
  pub some : 0 < length (bytes_of line)
  pub within : new.read ≤ most_bytes

-- the next line was given, or there is none
abbrev pub HandsOut : LineBuffer → LineBuffer → Option (List ℕ) → Option (List ℕ) → Option ScriptLine → Type 0
HandsOut old new left left_after (Some line) = GivesLine old new left left_after line
HandsOut old new left left_after None =
    TakesOn old new left left_after × (old.finished ≡ false → IsNothingLeft (to_read old left))

-- the line is the first of the held bytes
pub record CutsLine (old new : LineBuffer) (line : ScriptLine) : Type 0 where
  pub bytes : old.bytes ≡ bytes_of line ++ new.bytes
  pub one : has_newline_in line.text ≡ false
  pub last : line.newline ≡ false → new.bytes ≡ []
  pub finished : new.finished ≡ (old.finished || not line.newline)
  pub short : length line.text ≤ longest_line
  pub read : new.read ≡ old.read + length (bytes_of line)
  pub some : 0 < length (bytes_of line)
  pub within : new.read ≤ most_bytes

-- a line was cut off at its newline, or the last line where there is none, or there is no line
abbrev pub Cuts : LineBuffer → LineBuffer → Option ℕ → Option ScriptLine → Type 0
Cuts old new place None = (new ≡ old) × (old.bytes ≡ []) × (place ≡ None)
Cuts old new place (Some line) = CutsLine old new line × (line.newline ≡ false → place ≡ None)
