-- How far a journal is read, and how the reading ends.
use Rattle.std.specs.Prelude.{ℕ, ◌≡◌, ◌≢◌, ◌+◌, ◌*◌, ◌≤◌, ◌<◌, ◌⊎◌, List, [], ◌∷◌, ◌++◌, length, codes, true, false, Option, Some, None, Result, Ok, Err, ⊤}
use Rattle.std.specs.List.{list_all}
use Rattle.std.specs.Io.KnownBytes.{Consumes}
use Rattle.swarm_objects.specs.Limits.{longest_entry}
use Rattle.swarm_model.specs.History.{IsLegal, may_follow, replay, step, step_world}
use Rattle.swarm_objects.specs.World.{World}
use Rattle.swarm_objects.specs.declared.calls.Entry.{Entry}
use Rattle.swarm_objects.specs.declared.calls.What.{What}
use Rattle.swarm_objects.specs.declared.replies.Reply.{Reply}
use Rattle.swarm_duties.specs.declared.steps.StepFault.{StepFault}
use Rattle.swarm_duties.specs.declared.steps.StepFault.TheVariants as step_fault
use Rattle.script_grammar.specs.Entries.{entry_meaning}
use Rattle.script_grammar.specs.HasText.{has_text}
use Rattle.script_grammar.specs.Texts.{entry_text}
use Rattle.swarm_input.specs.Held.{HeldBytes, TakesMore, has_newline_in}
use Rattle.swarm_replay.specs.Journal.{is_head, journal_reading, journal_text}
use Rattle.swarm_input.specs.Lines.{line_ends, lines_of, IsWhole}
use Rattle.swarm_replay.specs.Replay.{IsVerdictOf, Judges, TakesAtMostAJournal, verdict_status}
use Rattle.swarm_input.specs.Streams.{Stream, HasFailed, HasRisen, Puts, PutsPrefix, TakesLines}
use Rattle.swarm_replay.specs.Inside.JournalBuffer.{GivesBytes, HasNoMore}
use Rattle.swarm_replay.specs.declared.entry_lines.Stop.{Stop}
use Rattle.swarm_replay.specs.declared.entry_lines.Stop.TheVariants.{Failed, Long, NoMemory as NoRoom}
use Rattle.swarm_input.specs.declared.input.ScriptLine.{ScriptLine}
use Rattle.swarm_input.specs.declared.faults.WriteFault.{WriteFault}
use Rattle.swarm_input.specs.declared.faults.WriteFault.TheVariants.{Failed as SinkFailed, NoMemory as NoSpace}
use Rattle.swarm_replay.specs.declared.verdicts.EntryFault.TheVariants.{Head, Size, Text}
use Rattle.swarm_replay.specs.declared.verdicts.Verdict.{Verdict}
use Rattle.swarm_replay.specs.declared.verdicts.Verdict.TheVariants.{Legal, Illegal, BadLine, ReadFault, NoMemory}
use Rattle.script_grammar.specs.declared.lines.LineFault.{LineFault}
use Rattle.script_grammar.specs.declared.lines.LineFault.TheVariants as fault

-- The head.

-- the first line isn't the head line
pub record BeginsOtherwise (bytes : List ℕ) : Type 0 where
  pub line : ScriptLine
  pub more : List ScriptLine
  pub lines : lines_of bytes ≡ line ∷ more
  pub other : is_head line ≡ false

abbrev pub HasNoHead : Option (List ℕ) → Type 0
HasNoHead None = ⊤
HasNoHead (Some bytes) = (bytes ≡ []) ⊎ BeginsOtherwise bytes

-- how the reading ends at the head, where nothing was held
abbrev pub EndsAtHead : Verdict → Option (List ℕ) → Option (List ℕ) → HeldBytes → Type 0
EndsAtHead (BadLine number Head) left left_after new = (number ≡ 1) × HasNoHead left
EndsAtHead (BadLine number Size) left left_after new = ⊥
EndsAtHead (BadLine number (Text fault)) left left_after new = ⊥
EndsAtHead ReadFault left left_after new = Consumes left left_after new.bytes × (has_newline_in new.bytes ≡ false)
EndsAtHead NoMemory left left_after new = ⊤
EndsAtHead (Legal count) left left_after new = ⊥
EndsAtHead (Illegal number) left left_after new = ⊥

-- at most one line, and what is read ahead
abbrev pub TakesAHead : Option (List ℕ) → Option (List ℕ) → Type 0
TakesAHead left left_after = TakesLines left left_after 1 longest_entry

-- the head line was read, or how the reading ends there
abbrev pub ReadsHead : Result (Unit {0}) Verdict → HeldBytes → HeldBytes → Option (List ℕ)
    → Option (List ℕ) → Type 0
ReadsHead (Ok done) old new left left_after = GivesBytes old new left left_after (codes "swarm journal 1\n")
ReadsHead (Err verdict) old new left left_after = EndsAtHead verdict left left_after new × TakesAHead left left_after

-- An entry.

-- what a step came to, its reply left out
abbrev pub without_reply : Result Reply StepFault → Result (Unit {0}) StepFault
without_reply (Ok reply) = Ok tt
without_reply (Err fault) = Err fault

-- an entry that may follow was done, or memory was wanting for it; or it is one that may not
abbrev pub IsStepped : World → What → Result (Unit {0}) StepFault → World → Type 0
IsStepped before what (Ok done) after = (may_follow before what ≡ true) × (after ≡ (step before what).after)
IsStepped before what (Err step_fault.Illegal) after = may_follow before what ≡ false
IsStepped before what (Err step_fault.NoMemory) after = ⊤

-- the same after so many entries, by how the reading ends there, if it does
abbrev pub DoesEntry : ℕ → World → What → Result (Unit {0}) Verdict → World → Type 0
DoesEntry count before what (Ok done) after =
    (may_follow before what ≡ true) × (after ≡ (step before what).after)
DoesEntry count before what (Err (Illegal number)) after =
    (number ≡ count + 1) × (may_follow before what ≡ false)
DoesEntry count before what (Err NoMemory) after = ⊤
DoesEntry count before what (Err (BadLine number fault)) after = ⊥
DoesEntry count before what (Err ReadFault) after = ⊥
DoesEntry count before what (Err (Legal number)) after = ⊥

-- what was done of what a line was read as
abbrev pub DoesRead : ℕ → World → Result Entry LineFault → Result (Unit {0}) Verdict → World → Type 0
DoesRead count before (Ok entry) result after = DoesEntry count before entry.what result after
DoesRead count before (Err why) (Err (BadLine number (Text found))) after =
    (number ≡ count + 2) × (found ≡ why) × (why ≢ fault.NoMemory)
DoesRead count before (Err why) (Err NoMemory) after = ⊤
DoesRead count before (Err why) (Ok done) after = ⊥
DoesRead count before (Err why) (Err (BadLine number Head)) after = ⊥
DoesRead count before (Err why) (Err (BadLine number Size)) after = ⊥
DoesRead count before (Err why) (Err ReadFault) after = ⊥
DoesRead count before (Err why) (Err (Illegal number)) after = ⊥
DoesRead count before (Err why) (Err (Legal number)) after = ⊥

-- what the line of an entry did to the world, after so many entries, by its result: how the reading ends, if it does
abbrev pub TakesEntry : ℕ → World → List ℕ → Result (Unit {0}) Verdict → World → Type 0
TakesEntry count before line (Ok done) after =
    (entry : Entry) × (entry_meaning line ≡ Ok entry) × (line ≡ entry_text entry) × (has_text entry ≡ true)
    × (may_follow before entry.what ≡ true) × (after ≡ step_world before entry)
TakesEntry count before line (Err (Illegal number)) after =
    (number ≡ count + 1)
    × ((entry : Entry) × (entry_meaning line ≡ Ok entry) × (may_follow before entry.what ≡ false))
TakesEntry count before line (Err (BadLine number (Text fault))) after =
    (number ≡ count + 2) × (entry_meaning line ≡ Err fault)
TakesEntry count before line (Err (BadLine number Head)) after = ⊥
TakesEntry count before line (Err (BadLine number Size)) after = ⊥
TakesEntry count before line (Err NoMemory) after = ⊤
TakesEntry count before line (Err ReadFault) after = ⊥
TakesEntry count before line (Err (Legal number)) after = ⊥

-- how the reading ends where no line was read
abbrev pub stopped : ℕ → Stop → Verdict
stopped number Failed = ReadFault
stopped number Long = BadLine number (Text fault.Long)
stopped number NoRoom = NoMemory

-- how the reading ends after as many entries as there can be
abbrev pub EndsFull : ℕ → Verdict → HeldBytes → HeldBytes → Option (List ℕ) → Option (List ℕ) → Type 0
EndsFull count (BadLine number Size) old new left left_after =
    (number ≡ count + 2) × TakesMore old new left left_after × (0 < length new.bytes)
EndsFull count (Legal number) old new left left_after =
    (number ≡ count) × TakesMore old new left left_after × HasNoMore old new left_after
EndsFull count ReadFault old new left left_after =
    TakesMore old new left left_after × (new.bytes ≡ []) × (old.finished ≡ false)
EndsFull count NoMemory old new left left_after = TakesMore old new left left_after
EndsFull count (BadLine number Head) old new left left_after = ⊥
EndsFull count (BadLine number (Text fault)) old new left left_after = ⊥
EndsFull count (Illegal number) old new left left_after = ⊥

-- How far a journal is read.

-- its first lines are read, which are in the grammar, and these are their entries
pub record ReachesEntries (input : List ℕ) (history : List Entry) (held : HeldBytes) (left : List ℕ) : Type 0 where
  pub read : List ℕ
  pub bytes : input ≡ read ++ (held.bytes ++ left)
  pub reading_is : journal_reading read ≡ record { entries = history; bad = None }
  pub text : read ≡ journal_text history
  pub few : length read ≤ (length history + 1) * longest_entry
  pub ends : line_ends read ≤ length history + 1
  pub unfinished : held.finished ≡ false → IsWhole read
  pub finished : held.finished ≡ true → held.bytes ++ left ≡ []

abbrev pub ReachesBy : Option (List ℕ) → List Entry → HeldBytes → Option (List ℕ) → Type 0
ReachesBy None history held left = ⊤
ReachesBy (Some input) history held None = ⊥
ReachesBy (Some input) history held (Some left) = ReachesEntries input history held left

-- these entries are done, so many, which are legal and make this world
pub record IsReplaying (input : Option (List ℕ)) (history : List Entry) (w : World) (count : ℕ) (held : HeldBytes)
    (left : Option (List ℕ)) : Type 0 where
  pub legal : IsLegal history
  pub world : w ≡ replay history
  pub count_is : count ≡ length history
  pub texts : list_all has_text history ≡ true
  pub reached : ReachesBy input history held left

-- The end of the reading.

-- these entries were done, and the verdict is on them
pub record IsJudgedOn (verdict : Verdict) (history : List Entry) (input : Stream) : Type 0 where
  pub legal : IsLegal history
  pub texts : list_all has_text history ≡ true
  pub judges : Judges verdict history
  pub lines : IsVerdictOf verdict input.before input.after history
  pub takes : TakesAtMostAJournal verdict history input
  pub cause : verdict ≡ ReadFault → HasFailed input
  pub risen : HasRisen input → verdict ≡ ReadFault

-- some entries were done, and the verdict is on them
abbrev pub IsJudged : Verdict → Stream → Type 0
IsJudged verdict input = (history : List Entry) × IsJudgedOn verdict history input

-- What is put.

-- a text was put, or why it was not
abbrev pub PutsText : Result (Unit {0}) WriteFault → Stream → List ℕ → Type 0
PutsText (Ok done) out text = Puts out text
PutsText (Err SinkFailed) out text = HasFailed out × PutsPrefix out text
PutsText (Err NoSpace) out text = Puts out []

-- the status where the line that tells the verdict couldn't be put
abbrev pub untold : Verdict → ℕ
untold (Legal count) = 4
untold verdict = verdict_status verdict

abbrev pub told_status : Verdict → Result (Unit {0}) WriteFault → ℕ
told_status verdict (Ok done) = verdict_status verdict
told_status verdict (Err NoSpace) = 5
told_status verdict (Err SinkFailed) = untold verdict
