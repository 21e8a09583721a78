-- Calls that histories treat apart, and the replies of those that don't become entries.
use Rattle.std.specs.Prelude.{Bool, true, false}
use Rattle.swarm_objects.specs.declared.calls.Call.{Call}
use Rattle.swarm_objects.specs.declared.calls.Call.TheVariants.{Halt, Settle}
use Rattle.swarm_objects.specs.declared.replies.Refusal.TheVariants as refusal
use Rattle.swarm_objects.specs.declared.replies.Reply.{Reply}
use Rattle.swarm_objects.specs.declared.replies.Reply.TheVariants.{Refused}

abbrev pub is_halt : Call → Bool
is_halt Halt = true
is_halt _ = false

-- the call asks for the settle test
abbrev pub is_settle : Call → Bool
is_settle (Settle budget) = true
is_settle _ = false

-- a call with this reply became an entry
abbrev pub is_entry : Reply → Bool
is_entry (Refused refusal.Halted) = false
is_entry (Refused (refusal.Full entries)) = false
is_entry (Refused refusal.NoMemory) = false
is_entry _ = true
