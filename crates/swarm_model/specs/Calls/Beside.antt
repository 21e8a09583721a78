-- What operations make of what stands beside the rows.
use Rattle.std.specs.Prelude.{ℕ, List, [], ◌∷◌, not}
use Rattle.swarm_model.specs.Calls.Nodes.{with_agent_if}
use Rattle.swarm_objects.specs.Rows.{agent_node, drop_row, sent_node, session_node}
use Rattle.swarm_objects.specs.World.{World}
use Rattle.swarm_objects.specs.declared.agents.NodeAgent.{NodeAgent}
use Rattle.swarm_objects.specs.declared.calls.Op.{Op}
use Rattle.swarm_objects.specs.declared.calls.Op.TheVariants as op
use Rattle.swarm_objects.specs.declared.messages.NodeSent.{NodeSent}
use Rattle.swarm_objects.specs.declared.sessions.NodeSession.{NodeSession}

pub record Beside : Type 0 where
  pub sessions : List NodeSession
  pub sent : List NodeSent
  pub agents : List NodeAgent

abbrev pub beside_of : World → Beside
beside_of w = record { sessions = w.tables.sessions; sent = w.sent; agents = w.agents }

-- an operation on the object with this id: a node that is inside comes with its agent, and goes with all it had
abbrev pub beside_op : Op → ℕ → Beside → Beside
beside_op (op.CreateNode name draft) id b = record b { agents = with_agent_if (not draft.remote) id b.agents }
beside_op (op.RemoveNode name force) id b = record {
  sessions = drop_row session_node id b.sessions;
  sent = drop_row sent_node id b.sent;
  agents = drop_row agent_node id b.agents;
}
beside_op _ id b = b

-- operations on the objects with these ids, one after the other
abbrev pub beside_ops : List Op → List ℕ → Beside → Beside
beside_ops [] ids b = b
beside_ops (o ∷ ops) [] b = b
beside_ops (o ∷ ops) (id ∷ ids) b = beside_ops ops ids (beside_op o id b)
