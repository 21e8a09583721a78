-- What an agent has of a session's messages, applied in order.
use Rattle.std.specs.Prelude.{Bool, List, None, Option, Some, [], fold, if◌then◌else◌, not, true, false, ℕ, ◌&&◌, ◌++◌, ◌∷◌, ◌≡◌}
use Rattle.std.specs.List.{list_any}
use Rattle.swarm_objects.specs.Agents.Messages.{is_stale}
use Rattle.swarm_objects.specs.Agents.Messages.{assigned_task, next_message}
use Rattle.swarm_objects.specs.Loops.Agents.{begun, take_in}
use Rattle.swarm_objects.specs.Rows.{Has, IsRising, executor_task, has_row, row_at}
use Rattle.swarm_objects.specs.declared.agents.Executor.{Executor}
use Rattle.swarm_objects.specs.declared.agents.NodeAgent.{NodeAgent}
use Rattle.swarm_objects.specs.declared.messages.Assigned.{Assigned}
use Rattle.swarm_objects.specs.declared.messages.Message.{Message}
use Rattle.swarm_objects.specs.declared.messages.NodeSent.{NodeSent}

abbrev pub sent_after : ℕ → Message → List Assigned → NodeSent
sent_after node m due = record { node = node; count = m.results_in; tasks = due }

-- what the node is sent while these are its due sets, one after the other: the next message, wherever there is one
abbrev pub messages_of : ℕ → Option NodeSent → List (List Assigned) → List Message
messages_of node sent [] = []
messages_of node sent (due ∷ dues) = elim (next_message sent due) [
  | None ↦ messages_of node sent dues
  | Some m ↦ m ∷ messages_of node (Some (sent_after node m due)) dues
]

-- the agent applies the message, each at a time of its own
abbrev pub hear : (ℕ → ℕ) → NodeAgent → Message → NodeAgent
hear clock a m = take_in (clock m.results_in) (Some m) a

abbrev pub hear_all : (ℕ → ℕ) → NodeAgent → List Message → NodeAgent
hear_all clock a messages = fold (hear clock) a messages

-- none of them is stale when its turn comes
abbrev pub are_fresh : (ℕ → ℕ) → NodeAgent → List Message → Bool
are_fresh clock a [] = true
are_fresh clock a (m ∷ messages) = not (is_stale a.applied m) && are_fresh clock (hear clock a m) messages

-- No task comes back after it left the due set.

abbrev pub is_never_due : ℕ → List (List Assigned) → Bool
is_never_due task dues = not (list_any (has_row assigned_task task) dues)

-- it was due, and once it isn't, it never is
abbrev pub never_returns : ℕ → List (List Assigned) → Bool
never_returns task [] = true
never_returns task (due ∷ dues) =
    if has_row assigned_task task due then never_returns task dues else is_never_due task dues

-- it may become due, once
abbrev pub is_due_once : ℕ → List (List Assigned) → Bool
is_due_once task [] = true
is_due_once task (due ∷ dues) =
    if has_row assigned_task task due then never_returns task dues else is_due_once task dues

-- the task of an executor that is there was due before the session; if it is gone, the task isn't due any more
abbrev pub may_be_due : Executor → List (List Assigned) → Bool
may_be_due e dues = if e.gone then is_never_due e.task dues else never_returns e.task dues

pub record NoneReturns (executors : List Executor) (dues : List (List Assigned)) : Type 0 where
  pub tasks : (task : ℕ) → is_due_once task dues ≡ true
  pub had : (task : ℕ) (e : Executor) → row_at executor_task task executors ≡ Some e →
      may_be_due e dues ≡ true

-- each due set stands by rising task
abbrev pub AreRising : List (List Assigned) → Type 0
AreRising dues = (due : List Assigned) → Has dues due → IsRising assigned_task due

pub record HasDue (due : List Assigned) (executors : List Executor) : Type 0 where
  -- for each task of the due set an executor with its desired state, which isn't gone
  pub items : (a : Assigned) → Has due a →
      (e : Executor) × (row_at executor_task a.task executors ≡ Some e) × (e.desired ≡ a.desired) × (e.gone ≡ false)
  -- every other executor is gone
  pub others : (task : ℕ) (e : Executor) → row_at executor_task task executors ≡ Some e →
      has_row assigned_task task due ≡ false → e.gone ≡ true

pub record Hears (clock : ℕ → ℕ) (a : NodeAgent) (due : List Assigned) (messages : List Message) : Type 0 where
  pub fresh : are_fresh clock a messages ≡ true
  pub has : HasDue due (hear_all clock a messages).executors

-- of an agent that registered and then applies the messages of its session, in order
abbrev pub HearingLaw : Type 0
HearingLaw =
    (clock : ℕ → ℕ) (a : NodeAgent) (dues : List (List Assigned)) (last : List Assigned) →
    AreRising (dues ++ last ∷ []) → NoneReturns a.executors (dues ++ last ∷ []) →
    Hears clock (begun a) last (messages_of a.node None (dues ++ last ∷ []))
