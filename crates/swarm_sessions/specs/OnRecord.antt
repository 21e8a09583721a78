-- Sessions as contracts see them.
use Rattle.std.specs.Prelude.{ℕ, ◌==◌, List, None, Option, Result, Some, if◌then◌else◌}
use Rattle.swarm_objects.specs.Refusals.{unless}
use Rattle.swarm_objects.specs.Nodes.Admission.{not_admitted}
use Rattle.swarm_objects.specs.Defaults.{usual_settings}
use Rattle.swarm_objects.specs.Rows.{session_node}
use Rattle.swarm_objects.specs.World.{Tables, empty_tables}
use Rattle.swarm_objects.specs.declared.replies.Refusal.{Refusal}
use Rattle.swarm_objects.specs.declared.sessions.NodeSession.{NodeSession}
use Rattle.swarm_objects.specs.declared.sessions.Session.{Session}

-- the sessions of a world's nodes, by rising node, and how many more can be put on record without memory
pub record OnRecord : Type 0 where
  pub rows : List NodeSession
  pub room : ℕ

-- tables that have these sessions, at this time, with this heartbeat and this next id
abbrev pub tables_with : List NodeSession → ℕ → ℕ → ℕ → Tables
tables_with rows clock heartbeat next_id = record empty_tables {
  clock = clock;
  next_id = next_id;
  sessions = rows;
  settings = record usual_settings { heartbeat = heartbeat };
}

abbrev pub the_session : NodeSession → Session
the_session row = row.session

-- whether the session is admitted for the node whose session is on record
abbrev pub admission : ℕ → ℕ → Option NodeSession → Result (Unit {0}) Refusal
admission clock session row = unless (not_admitted clock session row) tt

-- the row, where it is there and is the node's
abbrev pub if_has : ℕ → Option NodeSession → Option NodeSession
if_has node None = None
if_has node (Some row) = if session_node row == node then Some row else None
