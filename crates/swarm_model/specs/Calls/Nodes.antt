-- The operations on nodes.
use Rattle.swarm_objects.specs.Agents.NodeAgents.{new_agent}
use Rattle.std.specs.Prelude.{List, ℕ, [], Bool, false, true, ◌++◌, ◌∷◌, not, Option, find, length, ◌&&◌}
use Rattle.std.specs.Option.{option_map}
use Rattle.swarm_model.specs.Calls.Refusals.{bad_spec, name_taken, node_by, too_many, conflict, Done}
use Rattle.swarm_objects.specs.Refusals.{first_refusal, unless, refuse}
use Rattle.swarm_objects.specs.Changes.{id_taken, with_tables, change_node, change_where, in_state}
use Rattle.swarm_objects.specs.Limits.{most_nodes}
use Rattle.swarm_objects.specs.Loops.Agents.{agents}
use Rattle.swarm_objects.specs.Nodes.Words.{is_down}
use Rattle.swarm_objects.specs.Rows.{node_id, drop_row, session_node, agent_node, sent_node}
use Rattle.swarm_objects.specs.Rules.Nodes.{node_breaks, node_rules}
use Rattle.swarm_objects.specs.Tasks.Words.{is_not_over, is_on}
use Rattle.swarm_objects.specs.World.{World, Tables}
use Rattle.swarm_objects.specs.declared.agents.NodeAgent.{NodeAgent}
use Rattle.swarm_objects.specs.declared.ids.Kind.TheVariants as kind
use Rattle.swarm_objects.specs.declared.nodes.Node.{Node}
use Rattle.swarm_objects.specs.declared.replies.Refusal.{Refusal}
use Rattle.swarm_objects.specs.declared.replies.Refusal.TheVariants as refusal
use Rattle.swarm_objects.specs.declared.tasks.Task.{Task}
use Rattle.swarm_objects.specs.declared.tasks.TaskState.TheVariants as state

-- Nodes.

abbrev pub with_agent_if : Bool → ℕ → List NodeAgent → List NodeAgent
with_agent_if true node agents = agents ++ new_agent node ∷ []
with_agent_if false node agents = agents

abbrev pub with_node : World → Node → World
with_node w n = record w {
  tables = record (id_taken w.tables) { nodes = w.tables.nodes ++ n ∷ [] };
  agents = with_agent_if (not n.remote) n.id w.agents;
}

abbrev pub broken_node : Node → Option Refusal
broken_node n = bad_spec (find (node_breaks n) node_rules)

abbrev pub create_node : ℕ → World → Node → Done
create_node version w n =
    unless (first_refusal (
    broken_node n
    ∷ name_taken (option_map node_id (node_by w.tables n.name))
    ∷ too_many kind.Node most_nodes (length w.tables.nodes)
    ∷ []))
    (with_node w n, n.id)

abbrev pub update_node : World → Option ℕ → Node → Node → Done
update_node w asked old new =
    unless (first_refusal (conflict asked old.version ∷ broken_node new ∷ []))
    (with_tables w (change_node old.id (λ n. new) w.tables), old.id)

-- every task of the node up to RUNNING
abbrev pub is_left_behind : ℕ → Task → Bool
is_left_behind node x = is_on node x && is_not_over x

abbrev pub tables_without_node : ℕ → Tables → ℕ → Tables
tables_without_node version t id =
    change_where (is_left_behind id) (in_state version t.clock state.Orphaned)
    (record t { nodes = drop_row node_id id t.nodes; sessions = drop_row session_node id t.sessions })

abbrev pub without_node : ℕ → World → ℕ → World
without_node version w id = record w {
  tables = tables_without_node version w.tables id;
  sent = drop_row sent_node id w.sent;
  agents = drop_row agent_node id w.agents;
}

abbrev pub remove_node : ℕ → World → Bool → Node → Done
remove_node version w force n =
    unless (refuse (not force && not (is_down n.state)) (refusal.NodeNotDown n.state))
    (without_node version w n.id, n.id)
