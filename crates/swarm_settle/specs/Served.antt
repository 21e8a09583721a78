-- What the executors of READY nodes have in a quiet world.
use Rattle.std.specs.Prelude.{Some, false, true, ◌≡◌, ◌≤◌}
use Rattle.swarm_settle.specs.Laws.{Wherever}
use Rattle.swarm_settle.specs.Rest.{IsQuiet}
use Rattle.swarm_objects.specs.Nodes.Words.{is_ready}
use Rattle.swarm_objects.specs.Rows.{Has, agent_node, executor_task, row_at}
use Rattle.swarm_objects.specs.Values.Ranks.{rank}
use Rattle.swarm_objects.specs.World.{World}
use Rattle.swarm_objects.specs.declared.agents.Executor.{Executor}
use Rattle.swarm_objects.specs.declared.agents.NodeAgent.{NodeAgent}
use Rattle.swarm_objects.specs.declared.nodes.Node.{Node}
use Rattle.swarm_objects.specs.declared.tasks.Task.{Task}
use Rattle.swarm_objects.specs.declared.tasks.TaskState.TheVariants as state

-- the task is on the node, from ASSIGNED on
pub record IsOnNode (n : Node) (x : Task) : Type 0 where
  pub node : x.node ≡ Some n.id
  pub assigned : rank state.Assigned ≤ rank x.state

-- the executor isn't gone, wants what its task wants, and is no further
pub record IsExecutorOf (e : Executor) (x : Task) : Type 0 where
  pub gone : e.gone ≡ false
  pub desired : e.desired ≡ x.desired
  pub state : rank e.state ≤ rank x.state

-- each task of the node from ASSIGNED on has its executor, and each executor that isn't gone has such a task
pub record IsServed (w : World) (n : Node) (a : NodeAgent) : Type 0 where
  pub tasks : (x : Task) → Has w.tables.tasks x → IsOnNode n x →
      (e : Executor) × (row_at executor_task x.id a.executors ≡ Some e) × IsExecutorOf e x
  pub executors : (e : Executor) → Has a.executors e → e.gone ≡ false →
      (x : Task) × Has w.tables.tasks x × (x.id ≡ e.task) × IsOnNode n x × IsExecutorOf e x

abbrev pub AreServed : World → Type 0
AreServed w =
    (n : Node) (a : NodeAgent) → Has w.tables.nodes n → is_ready n.state ≡ true → n.remote ≡ false →
    row_at agent_node n.id w.agents ≡ Some a → IsServed w n a

abbrev pub ServedLaw : Type 0
ServedLaw = Wherever IsQuiet AreServed
