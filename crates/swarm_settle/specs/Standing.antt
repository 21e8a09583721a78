-- Worlds for whose parts rows, sessions and agents stand.
use Rattle.std.specs.Prelude.{List, map, ℕ, ◌≡◌}
use Rattle.swarm_agent.specs.Times.{seen_agent}
use Rattle.swarm_objects.specs.Nodes.Sessions.{is_session_live}
use Rattle.swarm_objects.specs.World.{Tables, World, empty_world}
use Rattle.swarm_objects.specs.declared.agents.NodeAgent.{NodeAgent}
use Rattle.swarm_sessions.specs.OnRecord.{OnRecord}

-- the tables, with the sessions on record in the place of their own
abbrev pub with_sessions : Tables → OnRecord → Tables
with_sessions t s = record t { sessions = s.rows }

-- the tables have the same nodes' sessions live as the sessions on record
abbrev pub AgreeOnLive : Tables → OnRecord → Type 0
AgreeOnLive t s = (node : ℕ) → is_session_live (with_sessions t s) node ≡ is_session_live t node

-- the three are the world's: its tables, its sessions, and its agents but for times that no step looks at
pub record StandFor (t : Tables) (s : OnRecord) (inside : List NodeAgent) (w : World) : Type 0 where
  pub tables : w.tables ≡ with_sessions t s
  pub agents : inside ≡ map seen_agent w.agents

-- the world that has them and nothing else
abbrev pub world_with : Tables → OnRecord → List NodeAgent → World
world_with t s agents = record empty_world { tables = with_sessions t s; agents = agents }
