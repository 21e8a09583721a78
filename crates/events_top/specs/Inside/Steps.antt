-- What one step of the going over a journal does.
use Rattle.std.specs.Prelude.{ℕ, Bool, ◌≡◌, ◌≢◌, ◌+◌, List, [], true, false, Result, Ok, Err, ⊤}
use Rattle.events_text.specs.Lines.{entry_line, event_lines}
use Rattle.events_top.specs.Endings.{ending_status}
use Rattle.events_top.specs.declared.endings.Ending.{Ending}
use Rattle.events_top.specs.declared.endings.Ending.TheVariants.{Judged, OutFault}
use Rattle.script_grammar.specs.Entries.{entry_meaning}
use Rattle.script_grammar.specs.HasText.{has_text}
use Rattle.script_grammar.specs.Texts.{entry_text}
use Rattle.script_grammar.specs.declared.lines.LineFault.{LineFault}
use Rattle.script_grammar.specs.declared.lines.LineFault.TheVariants as fault
use Rattle.swarm_input.specs.Streams.{Stream, HasFailed, Puts, PutsPrefix}
use Rattle.swarm_input.specs.declared.faults.WriteFault.{WriteFault}
use Rattle.swarm_input.specs.declared.faults.WriteFault.TheVariants.{Failed as SinkFailed, NoMemory as NoSpace}
use Rattle.swarm_model.specs.History.{may_follow, replay, step_world}
use Rattle.swarm_objects.specs.World.{World}
use Rattle.swarm_objects.specs.declared.calls.Entry.{Entry}
use Rattle.swarm_replay.specs.Inside.ReplaySteps.{IsJudgedOn, TakesEntry}
use Rattle.swarm_replay.specs.declared.verdicts.EntryFault.TheVariants.{Head, Size, Text}
use Rattle.swarm_replay.specs.declared.verdicts.Verdict.{Verdict}
use Rattle.swarm_replay.specs.declared.verdicts.Verdict.TheVariants.{Legal, Illegal, BadLine, ReadFault, NoMemory}

-- the line of an entry that may follow was made, or memory was wanting; both worlds are then those after it
abbrev pub TellsStep : World → Entry → World → Result (List ℕ) Verdict → World → Type 0
TellsStep w e after (Ok text) before = (text ≡ entry_line w e) × (before ≡ after)
TellsStep w e after (Err NoMemory) before = ⊤
TellsStep w e after (Err (Legal count)) before = ⊥
TellsStep w e after (Err (Illegal number)) before = ⊥
TellsStep w e after (Err (BadLine number fault)) before = ⊥
TellsStep w e after (Err ReadFault) before = ⊥

-- an entry that came after so many was done on both worlds and its line made, or how the reading ends there
abbrev pub DoesBoth : ℕ → World → Entry → Result (List ℕ) Verdict → World → World → Type 0
DoesBoth count w e (Ok text) before after =
    (may_follow w e.what ≡ true) × (after ≡ step_world w e) × (before ≡ after) × (text ≡ entry_line w e)
DoesBoth count w e (Err (Illegal number)) before after =
    (number ≡ count + 1) × (may_follow w e.what ≡ false) × (after ≡ w)
DoesBoth count w e (Err NoMemory) before after = ⊤
DoesBoth count w e (Err (Legal number)) before after = ⊥
DoesBoth count w e (Err (BadLine number fault)) before after = ⊥
DoesBoth count w e (Err ReadFault) before after = ⊥

-- the same of what a line was read as
abbrev pub TellsRead : ℕ → World → Result Entry LineFault → Result (List ℕ) Verdict → World → World → Type 0
TellsRead count w (Ok e) result before after = DoesBoth count w e result before after
TellsRead count w (Err why) (Err (BadLine number (Text found))) before after =
    (number ≡ count + 2) × (found ≡ why) × (why ≢ fault.NoMemory)
TellsRead count w (Err why) (Err NoMemory) before after = ⊤
TellsRead count w (Err why) (Ok text) before after = ⊥
TellsRead count w (Err why) (Err (BadLine number Head)) before after = ⊥
TellsRead count w (Err why) (Err (BadLine number Size)) before after = ⊥
TellsRead count w (Err why) (Err ReadFault) before after = ⊥
TellsRead count w (Err why) (Err (Illegal number)) before after = ⊥
TellsRead count w (Err why) (Err (Legal number)) before after = ⊥

-- the line is that of an entry that may follow, both worlds are those after it, and this is its line of events
pub record IsTold (w : World) (line : List ℕ) (before after : World) (text : List ℕ) : Type 0 where
  pub entry : Entry
  pub means : entry_meaning line ≡ Ok entry
  pub one : line ≡ entry_text entry
  pub has : has_text entry ≡ true
  pub may : may_follow w entry.what ≡ true
  pub after_is : after ≡ step_world w entry
  pub before_is : before ≡ after
  pub text_is : text ≡ entry_line w entry

-- where an entry may not follow, the world is still that before it
abbrev pub IsKept : Verdict → World → World → Type 0
IsKept (Illegal number) w after = after ≡ w
IsKept (Legal count) w after = ⊤
IsKept (BadLine number fault) w after = ⊤
IsKept ReadFault w after = ⊤
IsKept NoMemory w after = ⊤

-- the same of the line of an entry, or how the reading ends there
abbrev pub TellsEntry : ℕ → World → List ℕ → Result (List ℕ) Verdict → World → World → Type 0
TellsEntry count w line (Ok text) before after = IsTold w line before after text
TellsEntry count w line (Err verdict) before after =
    TakesEntry count w line (Err verdict) after × IsKept verdict w after

-- a line of events that was made is put, or how the reading ends
abbrev pub PutsTold : Result (List ℕ) Verdict → Result (Unit {0}) Ending → Stream → Type 0
PutsTold (Ok text) (Ok done) out = Puts out text
PutsTold (Ok text) (Err OutFault) out = HasFailed out × PutsPrefix out text
PutsTold (Ok text) (Err (Judged verdict)) out = ⊥
PutsTold (Err verdict) (Err (Judged found)) out = (found ≡ verdict) × Puts out []
PutsTold (Err verdict) (Err OutFault) out = ⊥
PutsTold (Err verdict) (Ok done) out = ⊥

-- the line of an entry was read and its line of events put, or how the reading ends there
abbrev pub TellsLine : ℕ → World → List ℕ → Result (Unit {0}) Ending → World → World → Stream → Type 0
TellsLine count w line (Ok done) before after out = (text : List ℕ) × IsTold w line before after text × Puts out text
TellsLine count w line (Err (Judged verdict)) before after out =
    TakesEntry count w line (Err verdict) after × IsKept verdict w after × Puts out []
TellsLine count w line (Err OutFault) before after out =
    (text : List ℕ) × IsTold w line before after text × HasFailed out × PutsPrefix out text

-- an entry that may not follow these comes after their world
abbrev pub IsBehind : Verdict → World → List Entry → Type 0
IsBehind (Illegal number) w history = w ≡ replay history
IsBehind (Legal count) w history = ⊤
IsBehind (BadLine number fault) w history = ⊤
IsBehind ReadFault w history = ⊤
IsBehind NoMemory w history = ⊤

-- the entries that were done, with what was put for them
abbrev pub TellsJournal : Ending → Stream → Stream → World → Type 0
TellsJournal (Judged verdict) input out w =
    (history : List Entry) × IsJudgedOn verdict history input × Puts out (event_lines history)
    × IsBehind verdict w history
TellsJournal OutFault input out w =
    (history : List Entry) × IsJudgedOn NoMemory history input × HasFailed out × PutsPrefix out (event_lines history)

-- an ending that is a fault of the journal
abbrev pub is_fault : Ending → Bool
is_fault (Judged (Illegal number)) = true
is_fault (Judged (BadLine number fault)) = true
is_fault (Judged (Legal count)) = false
is_fault (Judged ReadFault) = false
is_fault (Judged NoMemory) = false
is_fault OutFault = false

-- what tells the ending was put, or why it was not
abbrev pub PutsEnding : Result (Unit {0}) WriteFault → Stream → List ℕ → Type 0
PutsEnding (Ok done) err text = Puts err text
PutsEnding (Err SinkFailed) err text = HasFailed err × PutsPrefix err text
PutsEnding (Err NoSpace) err text = Puts err []

-- the status stands where it couldn't be put, but for want of memory
abbrev pub told_status : Ending → Result (Unit {0}) WriteFault → ℕ
told_status ending (Ok done) = ending_status ending
told_status ending (Err NoSpace) = 5
told_status ending (Err SinkFailed) = ending_status ending
