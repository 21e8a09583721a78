-- What operations make of what stands beside the rows: sessions, what was sent, and agents.
use Rattle.std.specs.Prelude.{◌≡◌, Bool, false, ◌+◌, ◌++◌, ◌∷◌, ℕ, List, [], not}
use Rattle.swarm_model.specs.Calls.Nodes.{with_agent_if}
use Rattle.swarm_objects.specs.Rows.{agent_node, drop_row, sent_node, session_node}
use Rattle.swarm_objects.specs.World.{World}
use Rattle.swarm_objects.specs.declared.agents.NodeAgent.{NodeAgent}
use Rattle.swarm_objects.specs.declared.calls.Op.{Op}
use Rattle.swarm_objects.specs.declared.calls.Op.TheVariants as op

-- of a removed node the row goes
abbrev pub drop_one : {X : Type 0} → (X → ℕ) → Op → ℕ → List X → List X
drop_one key (op.RemoveNode name force) id rows = drop_row key id rows
drop_one key _ id rows = rows

-- rows of each node, of which those of removed nodes go, given the ids of the operations' objects
abbrev pub drops : {X : Type 0} → (X → ℕ) → List Op → List ℕ → List X → List X
drops key [] ids rows = rows
drops key (o ∷ ops) [] rows = rows
drops key (op.RemoveNode name force ∷ ops) (id ∷ ids) rows = drops key ops ids (drop_row key id rows)
drops key (o ∷ ops) (id ∷ ids) rows = drops key ops ids rows

-- the operation creates a node with an agent
abbrev pub creates_agent : Op → Bool
creates_agent (op.CreateNode name draft) = not draft.remote
creates_agent _ = false

-- the next id after the operation
abbrev pub next_after : Op → ℕ → ℕ
next_after (op.CreateNode name draft) n = n + 1
next_after (op.CreateService name draft) n = n + 1
next_after (op.CreateNetwork name base bits) n = n + 1
next_after _ n = n

-- the agents of the modelled nodes that the operations create, from this id on
abbrev pub new_agents : ℕ → List Op → List NodeAgent
new_agents n [] = []
new_agents n (op.CreateNode name draft ∷ ops) = with_agent_if (not draft.remote) n [] ++ new_agents (n + 1) ops
new_agents n (o ∷ ops) = new_agents (next_after o n) ops

-- what stands beside the world after the operations
pub record IsBeside (w v : World) (ops : List Op) (ids : List ℕ) : Type 0 where
  pub sessions : v.tables.sessions ≡ drops session_node ops ids w.tables.sessions
  pub sent : v.sent ≡ drops sent_node ops ids w.sent
  pub agents : v.agents ≡ drops agent_node ops ids (w.agents ++ new_agents w.tables.next_id ops)
  pub halted : v.halted ≡ w.halted
