-- What the executors of an agent will be, beside what was sent to its node.
use Rattle.std.specs.Prelude.{Bool, List, Option, Some, false, filter, map, not, true, ℕ, ◌≡◌}
use Rattle.swarm_model.specs.History.{IsLegal}
use Rattle.swarm_model.specs.Laws.Steps.{EachWorld}
use Rattle.swarm_objects.specs.Agents.Messages.{assigned_task, sent_of}
use Rattle.swarm_objects.specs.Loops.Agents.{take_in}
use Rattle.swarm_objects.specs.Rows.{Has, agent_node, executor_task, has_row, node_id, row_at, task_id}
use Rattle.swarm_objects.specs.World.{World, empty_world}
use Rattle.swarm_objects.specs.declared.agents.Executor.{Executor}
use Rattle.swarm_objects.specs.declared.agents.NodeAgent.{NodeAgent}
use Rattle.swarm_objects.specs.declared.calls.Entry.{Entry}
use Rattle.swarm_objects.specs.declared.messages.AssignChange.TheVariants as assign
use Rattle.swarm_objects.specs.declared.messages.Assigned.{Assigned}
use Rattle.swarm_objects.specs.declared.messages.Message.{Message}
use Rattle.swarm_objects.specs.declared.messages.NodeSent.{NodeSent}
use Rattle.swarm_objects.specs.declared.nodes.Node.{Node}

abbrev pub is_inside : Node → Bool
is_inside n = not n.remote

-- the numbers of the modelled nodes
abbrev pub inside_numbers : List Node → List ℕ
inside_numbers nodes = map node_id (filter is_inside nodes)

-- each modelled node has one agent, and there are no others
abbrev pub HasOwners : World → Type 0
HasOwners w = map agent_node w.agents ≡ inside_numbers w.tables.nodes

abbrev pub OwnersLaw : Type 0
OwnersLaw = (h : List Entry) → IsLegal h → EachWorld HasOwners empty_world h

-- the task's executor, once the inbox is applied
abbrev pub executor_next : ℕ → NodeAgent → ℕ → Option Executor
executor_next clock a task = row_at executor_task task (take_in clock a.inbox a).executors

pub record IsAsSent (w : World) (a : NodeAgent) : Type 0 where
  -- what was sent has an executor with the desired state that was sent, and isn't gone
  pub sent : (s : NodeSent) (i : Assigned) (clock : ℕ) → sent_of w a.node ≡ Some s → Has s.tasks i →
      (e : Executor) × (executor_next clock a i.task ≡ Some e) × (e.desired ≡ i.desired) × (e.gone ≡ false)
  -- once something was sent, an executor that isn't gone is of a task that was sent
  pub others : (s : NodeSent) (e : Executor) (clock task : ℕ) → sent_of w a.node ≡ Some s →
      executor_next clock a task ≡ Some e → e.gone ≡ false → has_row assigned_task task s.tasks ≡ true
  -- an executor that is gone has no task
  pub gone : (e : Executor) (clock task : ℕ) → executor_next clock a task ≡ Some e → e.gone ≡ true →
      has_row task_id task w.tables.tasks ≡ false
  -- what an inbox updates was sent
  pub updates : (m : Message) (i : Assigned) → a.inbox ≡ Some m → Has m.changes (assign.Update i) →
      (s : NodeSent) × (sent_of w a.node ≡ Some s) × (has_row assigned_task i.task s.tasks ≡ true)

abbrev pub AreAsSent : World → Type 0
AreAsSent w = (a : NodeAgent) → Has w.agents a → IsAsSent w a

abbrev pub SentLaw : Type 0
SentLaw = (h : List Entry) → IsLegal h → EachWorld AreAsSent empty_world h
