-- What a line of a script does, step by step.
use Rattle.std.specs.Prelude.{ℕ, List, Bool, ◌≡◌, ◌⊎◌, Option, Some, Result, Ok, Err, ⊤}
use Rattle.std.specs.Io.KnownBytes.{Appends}
use Rattle.script_grammar.specs.declared.lines.Line.{Line}
use Rattle.swarm_input.specs.declared.faults.Fault.{Fault}
use Rattle.swarm_lines.specs.Came.{Came}
use Rattle.swarm_lines.specs.Putting.{part_out, part_refused}
use Rattle.swarm_lines.specs.Serial.{asked, is_refused}
use Rattle.swarm_lines.specs.declared.endings.Ending.{Ending}
use Rattle.swarm_lines.specs.declared.endings.Ending.TheVariants.{Done, Refused, ReadFault, OutFault, JournalFault, NoMemory, NoMemoryAt, BadLine, Full}
use Rattle.swarm_lines.specs.declared.unanswered.Unanswered.{Unanswered}
use Rattle.swarm_lines.specs.declared.unanswered.Unanswered.TheVariants as unanswered
use Rattle.swarm_model.specs.Kept.{KeepsLine, KeepsPart, KeepsUndone}
use Rattle.swarm_model.specs.Own.{Step}
use Rattle.swarm_objects.specs.Outside.{AppendsPrefix}
use Rattle.swarm_objects.specs.declared.calls.Entry.{Entry}
use Rattle.swarm_objects.specs.declared.replies.Reply.{Reply}
use Rattle.swarm_print.specs.Texts.{reply_text}
use Rattle.swarm_world.specs.Work.{IsFull}

-- all of the line was done, with these steps of caller 0
pub record MakesLine (line : Line) (old new : List Entry) (part : List Step) : Type 0 where
  pub came : Came old new part
  pub keeps : KeepsLine (asked line) part new

-- what a line did to the history and to the output, by its result: whether it was refused, or how the run ends
abbrev pub DoesLine : Result Bool Ending → Line → List Entry → List Entry → Option (List ℕ) → Option (List ℕ) → Type 0
DoesLine (Ok refused) line old new out out_after =
    (part : List Step) × MakesLine line old new part × Appends out out_after (part_out part)
    × (refused ≡ part_refused part)
DoesLine (Err OutFault) line old new out out_after =
    (part : List Step) × MakesLine line old new part × AppendsPrefix out out_after (part_out part)
DoesLine (Err NoMemory) line old new out out_after =
    (part : List Step) × Came old new part
    × (KeepsLine (asked line) part new ⊎ KeepsPart (Some (asked line)) part) × (out_after ≡ out)
DoesLine (Err Full) line old new out out_after =
    (part : List Step) × Came old new part × KeepsUndone new (Some (asked line)) part × IsFull new × (out_after ≡ out)
DoesLine (Err Done) line old new out out_after = ⊥
DoesLine (Err Refused) line old new out out_after = ⊥
DoesLine (Err ReadFault) line old new out out_after = ⊥
DoesLine (Err JournalFault) line old new out out_after = ⊥
DoesLine (Err (NoMemoryAt number fault)) line old new out out_after = ⊥
DoesLine (Err (BadLine number fault)) line old new out out_after = ⊥

-- how the run ends where a call or a duty is no entry
abbrev pub ending_by : Unanswered → Ending
ending_by unanswered.Full = Full
ending_by unanswered.NoMemory = NoMemory

-- what was put of a reply, by the result: whether it is a refusal, or how the run ends
abbrev pub PutsReply : Reply → Result Bool Ending → Option (List ℕ) → Option (List ℕ) → Type 0
PutsReply reply (Ok refused) out out_after = Appends out out_after (reply_text reply) × (refused ≡ is_refused reply)
PutsReply reply (Err OutFault) out out_after = AppendsPrefix out out_after (reply_text reply)
PutsReply reply (Err NoMemory) out out_after = out_after ≡ out
PutsReply reply (Err Full) out out_after = ⊥
PutsReply reply (Err Done) out out_after = ⊥
PutsReply reply (Err Refused) out out_after = ⊥
PutsReply reply (Err ReadFault) out out_after = ⊥
PutsReply reply (Err JournalFault) out out_after = ⊥
PutsReply reply (Err (NoMemoryAt number fault)) out out_after = ⊥
PutsReply reply (Err (BadLine number fault)) out out_after = ⊥

-- the same of what a call was answered, where it was
abbrev pub PutsAnswer : Result Reply Unanswered → Result Bool Ending → Option (List ℕ) → Option (List ℕ) → Type 0
PutsAnswer (Ok reply) result out out_after = PutsReply reply result out out_after
PutsAnswer (Err unanswered.Full) result out out_after = (result ≡ Err Full) × (out_after ≡ out)
PutsAnswer (Err unanswered.NoMemory) result out out_after = (result ≡ Err NoMemory) × (out_after ≡ out)

-- what the text of the line with this number says, or how the run ends there
abbrev pub SaysLine : ℕ → Result Line Fault → Result Line Ending → Type 0
SaysLine number meaning (Ok said) = meaning ≡ Ok said
SaysLine number meaning (Err (BadLine n fault)) = (n ≡ number) × (meaning ≡ Err fault)
SaysLine number meaning (Err NoMemory) = ⊤
SaysLine number meaning (Err Done) = ⊥
SaysLine number meaning (Err Refused) = ⊥
SaysLine number meaning (Err ReadFault) = ⊥
SaysLine number meaning (Err OutFault) = ⊥
SaysLine number meaning (Err JournalFault) = ⊥
SaysLine number meaning (Err Full) = ⊥
SaysLine number meaning (Err (NoMemoryAt n fault)) = ⊥
