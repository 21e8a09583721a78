-- What a history has to do with a script, by the way that the run ended.
use Rattle.std.specs.Prelude.{ℕ, ◌+◌, ◌≡◌, ◌≤◌, ◌<◌, take, List, [], ◌∷◌, ◌++◌, length, Option, Some, None, ⊤}
use Rattle.std.specs.Io.KnownBytes.{Consumes}
use Rattle.swarm_objects.specs.Limits.{most_entries}
use Rattle.swarm_model.specs.History.{replay}
use Rattle.swarm_model.specs.Script.{own_call}
use Rattle.swarm_objects.specs.World.{World}
use Rattle.swarm_objects.specs.declared.calls.Call.TheVariants.{Halt}
use Rattle.swarm_objects.specs.declared.calls.Entry.{Entry}
use Rattle.script_grammar.specs.declared.lines.Line.{Line}
use Rattle.swarm_input.specs.Lines.{whole_lines}
use Rattle.swarm_input.specs.Script.{Reading, reading, reading_of, most_bytes}
use Rattle.swarm_lines.specs.Serial.{line_entries, entries, serial, output_text, line_out}
use Rattle.swarm_input.specs.Streams.{Stream, PutsThenPrefix}
use Rattle.swarm_input.specs.declared.faults.Fault.{Fault}
use Rattle.swarm_lines.specs.declared.endings.Ending.{Ending}
use Rattle.swarm_lines.specs.declared.endings.Ending.TheVariants.{Done, Refused, ReadFault, OutFault, JournalFault, NoMemory, NoMemoryAt, BadLine, Full}

-- The history and the script's bytes.

-- all lines are in the grammar, and the history is theirs
abbrev pub IsOfAllLines : Reading → List Entry → Type 0
IsOfAllLines script history = (script.bad ≡ None) × (history ≡ serial script.said)

-- the history is that of the lines before the first one outside the grammar
abbrev pub IsOfGoodLines : ℕ → Fault → Reading → List Entry → Type 0
IsOfGoodLines number fault script history = (script.bad ≡ Some (number, fault)) × (history ≡ serial script.said)

-- the first entries that the next line makes
abbrev pub BeginsNext : World → List Line → List Entry → Type 0
BeginsNext w [] part = part ≡ []
BeginsNext w (line ∷ lines) part = (n : ℕ) × (part ≡ take n (line_entries w line))

-- the history is that of some first lines and of what was done of the next one
pub record IsOfFirstLines (script : Reading) (history : List Entry) : Type 0 where
  pub done : List Line
  pub left : List Line
  pub part : List Entry
  pub lines : script.said ≡ done ++ left
  pub next : BeginsNext (replay (entries done)) left part
  pub history_is : history ≡ (entries done ++ part) ++ own_call Halt ∷ []

-- the history is that of some first lines, and no further one was begun
pub record IsOfLinesToLast (script : Reading) (history : List Entry) : Type 0 where
  pub done : List Line
  pub last : Line
  pub left : List Line
  pub lines : script.said ≡ done ++ last ∷ left
  pub history_is : history ≡ serial (done ++ last ∷ [])

-- it has no room for more, and the next line makes more
pub record IsOfFullHistory (script : Reading) (history : List Entry) : Type 0 where
  pub done : List Line
  pub next : Line
  pub left : List Line
  pub part : ℕ
  pub lines : script.said ≡ done ++ next ∷ left
  pub more : part < length (line_entries (replay (entries done)) next)
  pub history_is : history ≡ (entries done ++ take part (line_entries (replay (entries done)) next))
      ++ own_call Halt ∷ []
  pub count : length (entries done ++ take part (line_entries (replay (entries done)) next)) ≡ most_entries

-- the history is that of the lines whose newline stands in the bytes that were taken
pub record IsOfTakenLines (input left : List ℕ) (history : List Entry) : Type 0 where
  pub taken : List ℕ
  pub bytes : input ≡ taken ++ left
  pub lines : IsOfAllLines (reading_of (whole_lines taken)) history

abbrev pub IsHistoryOf : Ending → List ℕ → List ℕ → List Entry → Type 0
IsHistoryOf Done input left history = IsOfAllLines (reading input) history
IsHistoryOf Refused input left history = IsOfAllLines (reading input) history
IsHistoryOf JournalFault input left history = IsOfAllLines (reading input) history
IsHistoryOf (BadLine number fault) input left history = IsOfGoodLines number fault (reading input) history
IsHistoryOf (NoMemoryAt number fault) input left history = IsOfGoodLines number fault (reading input) history
IsHistoryOf ReadFault input left history = IsOfTakenLines input left history
IsHistoryOf Full input left history = IsOfFullHistory (reading input) history
IsHistoryOf OutFault input left history = IsOfLinesToLast (reading input) history
IsHistoryOf NoMemory input left history = IsOfFirstLines (reading input) history

-- the same of a source, which may not tell its bytes
abbrev pub IsOfScript : Ending → Option (List ℕ) → Option (List ℕ) → List Entry → Type 0
IsOfScript ending None left history = ⊤
IsOfScript ending (Some input) None history = ⊥
IsOfScript ending (Some input) (Some left) history = IsHistoryOf ending input left history

-- however long the source is
abbrev pub TakesAtMostAScript : Stream → Type 0
TakesAtMostAScript script =
    (taken : List ℕ) × Consumes script.before script.after taken × (length taken ≤ most_bytes + 1)

-- What was put.

-- all earlier replies were put, and of those to the last line's entries a prefix
pub record PutsUpToLast (out : Stream) (history : List Entry) : Type 0 where
  pub before : List Entry
  pub last : Line
  pub history_is : history ≡ (before ++ line_entries (replay before) last) ++ own_call Halt ∷ []
  pub puts : PutsThenPrefix out (output_text before) (line_out before last)
