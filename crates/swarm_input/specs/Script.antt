-- What a script says, line by line, up to its first line outside the grammar.
use Rattle.std.specs.Prelude.{ℕ, Bool, if◌then◌else◌, Result, Ok, Err, ◌+◌, nat_le, ◌&&◌, nat_lt, length, List, Option, [], ◌∷◌, Some, None, ◌++◌, codes, decimal}
use Rattle.swarm_objects.specs.Limits.{longest_line, longest_script}
use Rattle.script_grammar.specs.declared.lines.Line.{Line}
use Rattle.script_grammar.specs.declared.lines.LineFault.{LineFault}
use Rattle.swarm_input.specs.declared.faults.Fault.{Fault}
use Rattle.swarm_input.specs.declared.faults.Fault.TheVariants.{Text, Size}
use Rattle.script_grammar.specs.Lines.{is_long, meaning_of}
use Rattle.swarm_input.specs.declared.input.ScriptLine.{ScriptLine}
use Rattle.swarm_input.specs.Lines.{bytes_of, lines_of}
use Rattle.script_grammar.specs.declared.lines.LineFault.TheVariants.{Long, Byte, Word, Cut, NoMemory}

-- the bytes of a script: 16 MiB
abbrev pub most_bytes : ℕ
most_bytes = longest_script

-- what a line's text says
abbrev pub in_text : Result Line LineFault → Result Line Fault
in_text (Ok said) = Ok said
in_text (Err fault) = Err (Text fault)

-- its byte 8,193 is none of its newline, and is at most the first byte beyond the limit
abbrev pub is_long_at : ℕ → ScriptLine → Bool
is_long_at before line = is_long line.text && nat_le (before + (longest_line + 1)) (most_bytes + 1)

-- it has the first byte beyond the limit
abbrev pub is_beyond : ℕ → ScriptLine → Bool
is_beyond before line = nat_lt most_bytes (before + length (bytes_of line))

-- what a line says that begins after so many bytes: `Size` goes before all other faults but such a `Long`
abbrev pub meaning_at : ℕ → ScriptLine → Result Line Fault
meaning_at before line =
    if is_long_at before line then Err (Text Long)
    else (if is_beyond before line then Err Size else in_text (meaning_of line.text))

-- what the lines say before the first one outside the grammar, and that one's number and fault, where there is one
pub record Reading : Type 0 where
  pub said : List Line
  pub bad : Option (ℕ × Fault)

abbrev pub read_on : ℕ → Result Line Fault → Reading → Reading
read_on number (Ok line) more = record more { said = line ∷ more.said }
read_on number (Err fault) more = record { said = []; bad = Some (number, fault) }

-- the reading of lines, the first of which has this number and begins after so many bytes
abbrev pub reading_at : ℕ → ℕ → List ScriptLine → Reading
reading_at number before [] = record { said = []; bad = None }
reading_at number before (line ∷ lines) =
    read_on number (meaning_at before line) (reading_at (number + 1) (before + length (bytes_of line)) lines)

abbrev pub reading_of : List ScriptLine → Reading
reading_of = reading_at 1 0

abbrev pub reading : List ℕ → Reading
reading bytes = reading_of (lines_of bytes)

abbrev pub line_fault_text : LineFault → List ℕ
line_fault_text Long = codes "Long"
line_fault_text Byte = codes "Byte"
line_fault_text (Word k) = codes "Word " ++ decimal k
line_fault_text Cut = codes "Cut"
line_fault_text NoMemory = codes "NoMemory"

abbrev pub fault_text : Fault → List ℕ
fault_text Size = codes "Size"
fault_text (Text fault) = line_fault_text fault

-- the line that is put for the first line outside the grammar, by its number and the text of its fault
abbrev pub bad_line_text : ℕ → List ℕ → List ℕ
bad_line_text number fault = codes "bad line " ++ decimal number ++ codes " " ++ fault ++ codes "\n"

-- that of a script
abbrev pub bad_line : ℕ → Fault → List ℕ
bad_line number fault = bad_line_text number (fault_text fault)
