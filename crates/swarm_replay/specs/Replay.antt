-- What a replay promises: which entries of its input are legal one after the other, and what is put of it.
use Rattle.std.specs.Prelude.{ℕ, ◌+◌, ◌≡◌, ◌⊎◌, min, if◌then◌else◌, List, [], ◌∷◌, ◌++◌, length, codes, decimal, true, false, Option, Some, None, ⊤}
use Rattle.std.specs.List.{list_all}
use Rattle.swarm_model.specs.History.{IsLegal, may_follow, replay, step_world}
use Rattle.swarm_objects.specs.Limits.{longest_entry}
use Rattle.swarm_objects.specs.World.{World, empty_world}
use Rattle.swarm_objects.specs.declared.calls.Entry.{Entry}
use Rattle.script_grammar.specs.HasText.{has_text}
use Rattle.swarm_replay.specs.Journal.{JournalReading, journal_of, journal_reading, most_lines, journal_text}
use Rattle.swarm_input.specs.Lines.{whole_lines}
use Rattle.swarm_input.specs.Script.{bad_line_text, line_fault_text}
use Rattle.swarm_input.specs.Streams.{Stream, HasFailed, HasRisen, Puts, PutsPrefix, PutsUnlessFailed, TakesLines}
use Rattle.swarm_replay.specs.declared.verdicts.EntryFault.{EntryFault}
use Rattle.swarm_replay.specs.declared.verdicts.EntryFault.TheVariants.{Head, Size, Text}
use Rattle.swarm_replay.specs.declared.verdicts.Verdict.{Verdict}
use Rattle.swarm_replay.specs.declared.verdicts.Verdict.TheVariants.{Legal, Illegal, BadLine, ReadFault, NoMemory}

-- The line that tells a verdict; a fault of the source and want of memory have none.

abbrev pub entry_fault_text : EntryFault → List ℕ
entry_fault_text Head = codes "Head"
entry_fault_text Size = codes "Size"
entry_fault_text (Text fault) = line_fault_text fault

abbrev pub verdict_text : Verdict → List ℕ
verdict_text (Legal count) = codes "legal " ++ decimal count ++ codes "\n"
verdict_text (Illegal number) = codes "illegal " ++ decimal number ++ codes "\n"
verdict_text (BadLine number fault) = bad_line_text number (entry_fault_text fault)
verdict_text ReadFault = []
verdict_text NoMemory = []

abbrev pub verdict_status : Verdict → ℕ
verdict_status (Legal count) = 0
verdict_status (Illegal number) = 8
verdict_status (BadLine number fault) = 6
verdict_status ReadFault = 3
verdict_status NoMemory = 5

-- The entries that were done, which are legal.

-- they are so many, or the next one may not follow them
abbrev pub Judges : Verdict → List Entry → Type 0
Judges (Legal count) history = count ≡ length history
Judges (Illegal number) history =
    (number ≡ length history + 1) × ((entry : Entry) × (may_follow (replay history) entry.what ≡ false))
Judges (BadLine number fault) history = ⊤
Judges ReadFault history = ⊤
Judges NoMemory history = ⊤

-- all lines are in the grammar, and these are their entries
abbrev pub IsWholeJournal : JournalReading → List Entry → Type 0
IsWholeJournal journal history = journal ≡ record { entries = history; bad = None }

-- these are the first entries, and the next one may not follow them
pub record BreaksAfter (journal : JournalReading) (history : List Entry) : Type 0 where
  pub entry : Entry
  pub more : List Entry
  pub entries : journal.entries ≡ history ++ entry ∷ more
  pub breaks : may_follow (replay history) entry.what ≡ false

-- these are some first entries
abbrev pub BeginsWith : JournalReading → List Entry → Type 0
BeginsWith journal history = (more : List Entry) × (journal.entries ≡ history ++ more)

-- the lines whose newline stands in the bytes that were taken are in the grammar, and these are their entries; the head
-- may not be among them
pub record IsOfTakenJournal (input left : List ℕ) (history : List Entry) : Type 0 where
  pub taken : List ℕ
  pub bytes : input ≡ taken ++ left
  pub lines :
      ((whole_lines taken ≡ []) × (history ≡ [])) ⊎ IsWholeJournal (journal_of (whole_lines taken)) history

abbrev pub IsVerdictOn : Verdict → List ℕ → List ℕ → List Entry → Type 0
IsVerdictOn (Legal count) input left history =
    IsWholeJournal (journal_reading input) history × (input ≡ journal_text history)
IsVerdictOn (Illegal number) input left history = BreaksAfter (journal_reading input) history
IsVerdictOn (BadLine number fault) input left history =
    journal_reading input ≡ record { entries = history; bad = Some (number, fault) }
IsVerdictOn ReadFault input left history = IsOfTakenJournal input left history
IsVerdictOn NoMemory input left history = BeginsWith (journal_reading input) history

-- the same of a source, which may not tell its bytes
abbrev pub IsVerdictOf : Verdict → Option (List ℕ) → Option (List ℕ) → List Entry → Type 0
IsVerdictOf verdict None left history = ⊤
IsVerdictOf verdict (Some input) None history = ⊥
IsVerdictOf verdict (Some input) (Some left) history = IsVerdictOn verdict input left history

-- However long the source is: no more of its lines than the verdict rests on, and what is read ahead of them.

-- the head, the lines of the entries that were done, and the one that decides, if one does
abbrev pub lines_for : Verdict → List Entry → ℕ
lines_for (Illegal number) history = length history + 2
lines_for (BadLine number (Text fault)) history = length history + 2
lines_for NoMemory history = length history + 2
lines_for _ history = length history + 1

-- the line after the last one that a journal has is only read ahead, to answer Size
abbrev pub TakesAtMostAJournal : Verdict → List Entry → Stream → Type 0
TakesAtMostAJournal verdict history input =
    TakesLines input.before input.after (min most_lines (lines_for verdict history)) longest_entry

-- What was put, and the status. Where memory is wanting for the line that tells the verdict, nothing is put.

abbrev pub LacksMemory : Stream → ℕ → Type 0
LacksMemory out status = (status ≡ 5) × Puts out []

abbrev pub TellsVerdict : Verdict → Stream → ℕ → Type 0
TellsVerdict (Legal count) out status =
    ((status ≡ 0) × Puts out (verdict_text (Legal count)))
    ⊎ (((status ≡ 4) × HasFailed out × PutsPrefix out (verdict_text (Legal count))) ⊎ LacksMemory out status)
TellsVerdict (Illegal number) out status =
    ((status ≡ 8) × PutsUnlessFailed out (verdict_text (Illegal number))) ⊎ LacksMemory out status
TellsVerdict (BadLine number fault) out status =
    ((status ≡ 6) × PutsUnlessFailed out (verdict_text (BadLine number fault))) ⊎ LacksMemory out status
TellsVerdict ReadFault out status = (status ≡ 3) × Puts out []
TellsVerdict NoMemory out status = LacksMemory out status

-- the statuses that stand where the line that tells the verdict can't be put
abbrev pub IsPutStatus : ℕ → Type 0
IsPutStatus status = (status ≡ 4) ⊎ ((status ≡ 6) ⊎ (status ≡ 8))

-- The verdict by the input alone.

-- the first entry that may not follow decides; else the first line outside the grammar; else all are legal
abbrev pub judge : World → ℕ → List Entry → Option (ℕ × EntryFault) → Verdict
judge w done [] None = Legal done
judge w done [] (Some bad) = BadLine bad.0 bad.1
judge w done (entry ∷ entries) bad =
    if may_follow w entry.what then judge (step_world w entry) (done + 1) entries bad else Illegal (done + 1)

abbrev pub verdict_on : JournalReading → Verdict
verdict_on journal = judge empty_world 0 journal.entries journal.bad

abbrev pub IsExpectedVerdict : Option (List ℕ) → ℕ → Type 0
IsExpectedVerdict None status = ⊤
IsExpectedVerdict (Some input) status = status ≡ verdict_status (verdict_on (journal_reading input))

-- The entries that were done are one legal history. By the verdict, which gives the status, it is that of the input's
-- lines, and the line that is put tells the verdict.
pub record IsReplay (input out : Stream) (status : ℕ) : Type 0 where
  pub history : List Entry
  pub legal : IsLegal history
  pub texts : list_all has_text history ≡ true
  pub verdict : Verdict
  -- of every source, also one that doesn't tell its bytes
  pub judges : Judges verdict history
  pub lines : IsVerdictOf verdict input.before input.after history
  pub tells : TellsVerdict verdict out status
  pub cause : verdict ≡ ReadFault → HasFailed input
  pub takes : TakesAtMostAJournal verdict history input
  -- where a count rose, the status says so
  pub input_failed : HasRisen input → status ≡ 3
  pub out_failed : HasRisen out → IsPutStatus status
  -- where nothing failed, the input decides the status, or memory was wanting
  pub complete : (HasFailed input → ⊥) → (HasFailed out → ⊥) → (status ≡ 5) ⊎ IsExpectedVerdict input.before status
