-- What the events of a journal promise: which entries they are of, and what is put for them.
use Rattle.std.specs.Prelude.{ℕ, ◌≡◌, ◌⊎◌, List, [], true, ⊤}
use Rattle.std.specs.List.{list_all}
use Rattle.events_text.specs.Lines.{event_lines}
use Rattle.events_top.specs.Endings.{ending_text, why_not}
use Rattle.events_top.specs.declared.endings.Ending.{Ending}
use Rattle.events_top.specs.declared.endings.Ending.TheVariants.{Judged, OutFault}
use Rattle.script_grammar.specs.HasText.{has_text}
use Rattle.swarm_input.specs.Streams.{Stream, HasFailed, HasRisen, Puts, PutsPrefix, PutsUnlessFailed}
use Rattle.swarm_model.specs.History.{IsLegal, replay}
use Rattle.swarm_objects.specs.World.{World}
use Rattle.swarm_objects.specs.declared.calls.Entry.{Entry}
use Rattle.swarm_replay.specs.Replay.{IsExpectedVerdict, IsVerdictOf, Judges, LacksMemory, TakesAtMostAJournal}
use Rattle.swarm_replay.specs.declared.verdicts.Verdict.{Verdict}
use Rattle.swarm_replay.specs.declared.verdicts.Verdict.TheVariants.{Legal, Illegal, BadLine, ReadFault, NoMemory}

-- what a replay that did these entries says; where the lines can't be put it says as little as where memory is wanting:
-- these are the journal's first
abbrev pub verdict_of : Ending → Verdict
verdict_of (Judged verdict) = verdict
verdict_of OutFault = NoMemory

-- the line of each entry, or where that sink failed a prefix of them
abbrev pub PutsLines : Ending → Stream → List Entry → Type 0
PutsLines (Judged verdict) out history = Puts out (event_lines history)
PutsLines OutFault out history = PutsPrefix out (event_lines history)

-- a fault of the journal is told and gives the status, unless memory is wanting to tell it; of nothing else is told
abbrev pub TellsEnding : Ending → World → Stream → ℕ → Type 0
TellsEnding (Judged (Illegal number)) w err status =
    ((status ≡ 8) × PutsUnlessFailed err (ending_text (Judged (Illegal number)) (why_not w))) ⊎ LacksMemory err status
TellsEnding (Judged (BadLine number fault)) w err status =
    ((status ≡ 6) × PutsUnlessFailed err (ending_text (Judged (BadLine number fault)) (why_not w)))
    ⊎ LacksMemory err status
TellsEnding (Judged (Legal count)) w err status = (status ≡ 0) × Puts err []
TellsEnding (Judged ReadFault) w err status = (status ≡ 3) × Puts err []
TellsEnding (Judged NoMemory) w err status = LacksMemory err status
TellsEnding OutFault w err status = (status ≡ 4) × Puts err []

abbrev pub HasCauseOf : Ending → Stream → Stream → Type 0
HasCauseOf (Judged ReadFault) input out = HasFailed input
HasCauseOf (Judged (Legal count)) input out = ⊤
HasCauseOf (Judged (Illegal number)) input out = ⊤
HasCauseOf (Judged (BadLine number fault)) input out = ⊤
HasCauseOf (Judged NoMemory) input out = ⊤
HasCauseOf OutFault input out = HasFailed out

-- The entries that were done are one legal history, which is that of the input's lines as a replay reads them. Each has
-- its line, and what ends the reading is told as a replay tells it, with the same status.
pub record IsEvents (input out err : Stream) (status : ℕ) : Type 0 where
  pub history : List Entry
  pub legal : IsLegal history
  pub texts : list_all has_text history ≡ true
  pub ending : Ending
  -- of every source, also one that doesn't tell its bytes
  pub judges : Judges (verdict_of ending) history
  pub lines : IsVerdictOf (verdict_of ending) input.before input.after history
  pub takes : TakesAtMostAJournal (verdict_of ending) history input
  pub puts : PutsLines ending out history
  pub tells : TellsEnding ending (replay history) err status
  pub cause : HasCauseOf ending input out
  -- where a count rose, the status says so
  pub input_failed : HasRisen input → status ≡ 3
  pub out_failed : HasRisen out → status ≡ 4
  pub err_failed : HasRisen err → (status ≡ 6) ⊎ (status ≡ 8)
  -- where nothing failed, the status is that of a replay, or memory was wanting
  pub complete : (HasFailed input → ⊥) → (HasFailed out → ⊥) → (status ≡ 5) ⊎ IsExpectedVerdict input.before status
