-- Sessions of nodes.
use Rattle.std.specs.Prelude.{ℕ, Bool, false, nat_lt, Option, Some, None, ◌+◌, ◌*◌}
use Rattle.swarm_objects.specs.Rows.{row_at, session_node, change_row, with_row, node_id}
use Rattle.swarm_objects.specs.World.{Tables}
use Rattle.swarm_objects.specs.declared.nodes.Node.{Node}
use Rattle.swarm_objects.specs.declared.nodes.NodeState.TheVariants as node_state
use Rattle.swarm_objects.specs.declared.sessions.NodeSession.{NodeSession}

abbrev pub is_before_deadline : ℕ → Option NodeSession → Bool
is_before_deadline clock None = false
is_before_deadline clock (Some s) = nat_lt clock s.session.deadline

-- the node's session is live
abbrev pub is_session_live : Tables → ℕ → Bool
is_session_live t node = is_before_deadline t.clock (row_at session_node node t.sessions)

-- the session has the next id and lasts for three beats; opening counts as a beat
abbrev pub new_session : Tables → ℕ → NodeSession
new_session t node = record {
  node = node;
  session = record { id = t.next_id; deadline = t.clock + 3 * t.settings.heartbeat; beat = t.clock };
}

abbrev pub ready_node : ℕ → Node → Node
ready_node version n = record n { version = version; state = node_state.Ready }

abbrev pub registered : ℕ → Tables → ℕ → Tables
registered version t node = record t {
  next_id = t.next_id + 1;
  nodes = change_row node_id node (ready_node version) t.nodes;
  sessions = with_row session_node (new_session t node) t.sessions;
}

abbrev pub session_of : Tables → ℕ → Option NodeSession
session_of t node = row_at session_node node t.sessions
