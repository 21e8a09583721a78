-- The text of a journal, and what the bytes of one say: the head line, and then one entry a line, up to the first line
-- outside the grammar.
use Rattle.std.specs.Prelude.{ℕ, ◌+◌, nat_lt, if◌then◌else◌, Bool, List, [], ◌∷◌, ◌++◌, codes, Option, Some, None, Result, Ok, Err}
use Rattle.std.specs.List.{flat_map}
use Rattle.std.specs.Str.{bytes_eq}
use Rattle.swarm_objects.specs.Limits.{most_entries}
use Rattle.swarm_objects.specs.declared.calls.Entry.{Entry}
use Rattle.script_grammar.specs.Entries.{entry_meaning}
use Rattle.script_grammar.specs.declared.lines.LineFault.{LineFault}
use Rattle.script_grammar.specs.Texts.{entry_text}
use Rattle.swarm_input.specs.Lines.{bytes_of, lines_of}
use Rattle.swarm_input.specs.declared.input.ScriptLine.{ScriptLine}
use Rattle.swarm_replay.specs.declared.verdicts.EntryFault.{EntryFault}
use Rattle.swarm_replay.specs.declared.verdicts.EntryFault.TheVariants.{Head, Size, Text}

-- the head line and the line of each entry
abbrev pub journal_text : List Entry → List ℕ
journal_text history = codes "swarm journal 1\n" ++ flat_map entry_text history

-- the head, and as many entries as a whole history can have
abbrev pub most_lines : ℕ
most_lines = 1 + (most_entries + 1)

abbrev pub is_head : ScriptLine → Bool
is_head line = bytes_eq (bytes_of line) (codes "swarm journal 1\n")

abbrev pub in_journal : Result Entry LineFault → Result Entry EntryFault
in_journal (Ok entry) = Ok entry
in_journal (Err fault) = Err (Text fault)

-- what a line after the head says, by its number: `Size` goes before every other fault
abbrev pub entry_at : ℕ → ScriptLine → Result Entry EntryFault
entry_at number line = if nat_lt most_lines number then Err Size else in_journal (entry_meaning (bytes_of line))

-- the entries before the first line outside the grammar, and that one's number and fault, where there is one
pub record JournalReading : Type 0 where
  pub entries : List Entry
  pub bad : Option (ℕ × EntryFault)

abbrev pub entries_on : ℕ → Result Entry EntryFault → JournalReading → JournalReading
entries_on number (Ok entry) more = record more { entries = entry ∷ more.entries }
entries_on number (Err fault) more = record { entries = []; bad = Some (number, fault) }

-- the lines of entries, the first of which has this number
abbrev pub entries_at : ℕ → List ScriptLine → JournalReading
entries_at number [] = record { entries = []; bad = None }
entries_at number (line ∷ lines) = entries_on number (entry_at number line) (entries_at (number + 1) lines)

-- all lines: where the first isn't the head line with its newline, there is no journal
abbrev pub journal_of : List ScriptLine → JournalReading
journal_of [] = record { entries = []; bad = Some (1, Head) }
journal_of (line ∷ lines) =
    if is_head line then entries_at 2 lines else record { entries = []; bad = Some (1, Head) }

abbrev pub journal_reading : List ℕ → JournalReading
journal_reading bytes = journal_of (lines_of bytes)
