-- What the next message makes of each executor of the node.
use Rattle.std.specs.Prelude.{Bool, List, None, Option, Some, false, if◌then◌else◌, true, ℕ, ◌≡◌}
use Rattle.std.specs.Option.{option_map}
use Rattle.swarm_objects.specs.Agents.Messages.{applied, assigned_task, gone_executor, is_sent, new_executor, next_message}
use Rattle.swarm_objects.specs.Rows.{IsRising, executor_task, has_row, row_at}
use Rattle.swarm_objects.specs.declared.agents.Executor.{Executor}
use Rattle.swarm_objects.specs.declared.messages.Assigned.{Assigned}
use Rattle.swarm_objects.specs.declared.messages.Message.{Message}
use Rattle.swarm_objects.specs.declared.messages.NodeSent.{NodeSent}

-- an executor that is there gets the desired state; where none is, one comes
abbrev pub aimed_or_new : ℕ → Assigned → Option Executor → Executor
aimed_or_new clock a None = new_executor clock a
aimed_or_new clock a (Some e) = record e { desired = a.desired }

-- what is due was sent so already
abbrev pub is_sent_so : Option NodeSent → Assigned → Bool
is_sent_so None a = false
is_sent_so (Some s) a = is_sent s.tasks a

-- the task was sent; where nothing was, the node may have it from an earlier session
abbrev pub may_have : Option NodeSent → ℕ → Bool
may_have None task = true
may_have (Some s) task = has_row assigned_task task s.tasks

-- a task that is due and wasn't sent so gets an executor with its desired state; one that is due no more loses it
abbrev pub executor_after : ℕ → Option NodeSent → Option Assigned → ℕ → Option Executor → Option Executor
executor_after clock sent (Some a) task e = if is_sent_so sent a then e else Some (aimed_or_new clock a e)
executor_after clock sent None task e = if may_have sent task then option_map gone_executor e else e

abbrev pub MessageLaw : Type 0
MessageLaw =
    (clock : ℕ) (sent : Option NodeSent) (due : List Assigned) (m : Message) (executors : List Executor) (task : ℕ) →
    IsRising assigned_task due → next_message sent due ≡ Some m →
    row_at executor_task task (applied clock m executors)
    ≡ executor_after clock sent (row_at assigned_task task due) task (row_at executor_task task executors)
