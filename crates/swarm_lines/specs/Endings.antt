-- How a run ends.
use Rattle.std.specs.Prelude.{Bool, if◌then◌else◌, ℕ, ◌≡◌, Result, Ok, Err}
use Rattle.swarm_lines.specs.declared.endings.Ending.{Ending}
use Rattle.swarm_lines.specs.declared.endings.Ending.TheVariants.{Done, Refused, ReadFault, NoMemory, BadLine, NoMemoryAt, OutFault, JournalFault, Full}
use Rattle.swarm_input.specs.declared.input.ReadFault.{ReadFault as ReaderFault}
use Rattle.swarm_input.specs.declared.input.ReadFault.TheVariants.{Failed, Bad, NoMemory as NoRoom}
use Rattle.swarm_input.specs.declared.faults.WriteFault.{WriteFault}
use Rattle.swarm_input.specs.declared.faults.WriteFault.TheVariants.{Failed as SinkFailed, NoMemory as NoSpace}
use Rattle.swarm_input.specs.Script.{bad_line}
use Rattle.swarm_input.specs.Streams.{Stream, PutsUnlessFailed}

-- the status of each ending
abbrev pub exit_status : Ending → ℕ
exit_status Done = 0
exit_status Refused = 1
exit_status ReadFault = 3
exit_status OutFault = 4
exit_status JournalFault = 4
exit_status NoMemory = 5
exit_status (NoMemoryAt number fault) = 5
exit_status (BadLine number fault) = 6
exit_status Full = 7

-- how the run ends after the whole script
abbrev pub whole_ending : Bool → Ending
whole_ending refused = if refused then Refused else Done

-- how the run ends by a fault of the reader at the line with this number
abbrev pub ending_of : ℕ → ReaderFault → Ending
ending_of number Failed = ReadFault
ending_of number (Bad fault) = BadLine number fault
ending_of number NoRoom = NoMemory

-- what was put of how the reading ended, and how the run ends then
abbrev pub TellsEnding : Ending → Ending → Stream → Type 0
TellsEnding (BadLine number fault) (BadLine n f) out =
    (n ≡ number) × (f ≡ fault) × PutsUnlessFailed out (bad_line number fault)
TellsEnding (BadLine number fault) (NoMemoryAt n f) out =
    (n ≡ number) × (f ≡ fault) × (out.after ≡ out.before) × (out.faults_after ≡ out.faults_before)
TellsEnding before after out = (after ≡ before) × (out.after ≡ out.before) × (out.faults_after ≡ out.faults_before)

-- how the run ends where memory is wanting
abbrev pub out_of_memory : Ending → Ending
out_of_memory (BadLine number fault) = NoMemoryAt number fault
out_of_memory (NoMemoryAt number fault) = NoMemoryAt number fault
out_of_memory Done = NoMemory
out_of_memory Refused = NoMemory
out_of_memory ReadFault = NoMemory
out_of_memory OutFault = NoMemory
out_of_memory JournalFault = NoMemory
out_of_memory NoMemory = NoMemory
out_of_memory Full = NoMemory

-- how the run ends where the journal's sink failed: an earlier cause stands
abbrev pub after_fault : Ending → Ending
after_fault Done = JournalFault
after_fault Refused = JournalFault
after_fault ReadFault = ReadFault
after_fault OutFault = OutFault
after_fault JournalFault = JournalFault
after_fault NoMemory = NoMemory
after_fault (NoMemoryAt number fault) = NoMemoryAt number fault
after_fault (BadLine number fault) = BadLine number fault
after_fault Full = Full

abbrev pub after_journal : Ending → Result (Unit {0}) WriteFault → Ending
after_journal ending (Ok done) = ending
after_journal ending (Err NoSpace) = out_of_memory ending
after_journal ending (Err SinkFailed) = after_fault ending
