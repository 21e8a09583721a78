-- What the agents of READY nodes have in a quiet world.
use Rattle.std.specs.Prelude.{List, None, Some, false, true, ◌≡◌, ◌≤◌, ◌⊎◌}
use Rattle.swarm_settle.specs.Laws.{Wherever}
use Rattle.swarm_settle.specs.Rest.{IsQuiet}
use Rattle.swarm_model.specs.History.{IsLegal}
use Rattle.swarm_model.specs.Laws.Matches.{is_in_hand}
use Rattle.swarm_model.specs.Laws.Steps.{EachWorld}
use Rattle.swarm_objects.specs.Agents.Executors.{wants_to_stop}
use Rattle.swarm_objects.specs.Agents.Messages.{message_for}
use Rattle.swarm_objects.specs.Loops.Agents.{is_mode_on, wants_report}
use Rattle.swarm_objects.specs.Nodes.Words.{is_ready}
use Rattle.swarm_objects.specs.Rows.{Has, agent_node, row_at}
use Rattle.swarm_objects.specs.Values.Ranks.{rank}
use Rattle.swarm_objects.specs.World.{Tables, World, empty_world}
use Rattle.swarm_objects.specs.declared.agents.Executor.{Executor}
use Rattle.swarm_objects.specs.declared.agents.NodeAgent.{NodeAgent}
use Rattle.swarm_objects.specs.declared.calls.Entry.{Entry}
use Rattle.swarm_objects.specs.declared.nodes.Node.{Node}
use Rattle.swarm_objects.specs.declared.tasks.Desired.TheVariants as desired
use Rattle.swarm_objects.specs.declared.tasks.Task.{Task}
use Rattle.swarm_objects.specs.declared.tasks.TaskState.TheVariants as state
use Rattle.swarm_objects.specs.declared.tasks.TaskState.{TaskState}

-- the executor runs, or is READY as is wanted, and isn't to stop
abbrev pub RunsOrWaits : Executor → Type 0
RunsOrWaits e =
    (wants_to_stop e ≡ false) × ((e.state ≡ state.Running) ⊎ ((e.state ≡ state.Ready) × (e.desired ≡ desired.Ready)))

-- the agent is on and has heard all; its executors run or wait, and have reported all
pub record IsQuietAgent (w : World) (a : NodeAgent) : Type 0 where
  pub on : is_mode_on a.mode ≡ true
  pub inbox : a.inbox ≡ None
  pub message : message_for w a.node ≡ None
  pub executors : (e : Executor) → Has a.executors e → is_in_hand e ≡ true → RunsOrWaits e
  pub reports : (e : Executor) → Has a.executors e → wants_report w.tables e ≡ false

abbrev pub AreQuietAgents : World → Type 0
AreQuietAgents w =
    (n : Node) (a : NodeAgent) → Has w.tables.nodes n → is_ready n.state ≡ true → n.remote ≡ false →
    row_at agent_node n.id w.agents ≡ Some a → IsQuietAgent w a

abbrev pub QuietAgentsLaw : Type 0
QuietAgentsLaw = Wherever IsQuiet AreQuietAgents

-- the executor is at least ACCEPTED, and what it reported is at most its state, and its task's where that is there
pub record IsAhead (t : Tables) (e : Executor) : Type 0 where
  pub accepted : rank state.Accepted ≤ rank e.state
  pub reported : (s : TaskState) → e.reported ≡ Some s →
      (rank s ≤ rank e.state) × ((x : Task) → Has t.tasks x → x.id ≡ e.task → rank s ≤ rank x.state)

abbrev pub AreAhead : World → Type 0
AreAhead w = (a : NodeAgent) → Has w.agents a → (e : Executor) → Has a.executors e → IsAhead w.tables e

abbrev pub ReportLaw : Type 0
ReportLaw = (h : List Entry) → IsLegal h → EachWorld AreAhead empty_world h
