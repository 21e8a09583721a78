-- The dispatcher's duties: sessions that end, and tasks of nodes that are down for long.
use Rattle.std.specs.Prelude.{Bool, not, ◌&&◌, nat_le, ◌+◌, List, ◌++◌, ℕ}
use Rattle.swarm_objects.specs.Changes.{change_node, change_task, in_state}
use Rattle.swarm_objects.specs.Loops.Words.{duty_where}
use Rattle.swarm_objects.specs.Nodes.Sessions.{is_session_live}
use Rattle.swarm_objects.specs.Nodes.Words.{is_ready, is_down, is_node_and}
use Rattle.swarm_objects.specs.Tasks.Words.{is_placed}
use Rattle.swarm_objects.specs.World.{Tables}
use Rattle.swarm_objects.specs.declared.duties.Duty.{Duty}
use Rattle.swarm_objects.specs.declared.duties.Duty.TheVariants as duty
use Rattle.swarm_objects.specs.declared.nodes.Node.{Node}
use Rattle.swarm_objects.specs.declared.nodes.NodeState.TheVariants as node_state
use Rattle.swarm_objects.specs.declared.tasks.Task.{Task}
use Rattle.swarm_objects.specs.declared.tasks.TaskState.TheVariants as state

abbrev pub is_expired : Tables → Node → Bool
is_expired t n = is_ready n.state && not (is_session_live t n.id)

-- it is down for the orphan time
abbrev pub is_long_down : Tables → Node → Bool
is_long_down t n = is_down n.state && nat_le (n.down_since + t.settings.orphan) t.clock

abbrev pub is_orphaned : Tables → Task → Bool
is_orphaned t x = is_placed x && is_node_and t (is_long_down t) x

abbrev pub dispatcher : Tables → List Duty
dispatcher t =
    duty_where (is_expired t) (λ n. duty.Expire n.id) t.nodes
    ++ duty_where (is_orphaned t) (λ x. duty.Orphan x.id) t.tasks

-- What they do.

-- the node is DOWN from now on
abbrev pub fallen : ℕ → ℕ → Node → Node
fallen version clock n = record n { version = version; state = node_state.Down; down_since = clock }

abbrev pub after_expire : ℕ → Tables → ℕ → Tables
after_expire version t n = change_node n (fallen version t.clock) t

abbrev pub after_orphan : ℕ → Tables → ℕ → Tables
after_orphan version t x = change_task x (in_state version t.clock state.Orphaned) t
