-- What a store holds, and the worlds that it stands for.
use Rattle.std.specs.Prelude.{◌≡◌, ◌⊎◌, ◌<◌, ◌+◌, ℕ, true, List, [], length, Result, Ok, Err}
use Rattle.std.specs.List.{list_all}
use Rattle.swarm_model.specs.Calls.{txn}
use Rattle.swarm_model.specs.Calls.Views.{shows}
use Rattle.swarm_model.specs.Changed.{changes_between}
use Rattle.swarm_objects.specs.Bounds.{far_end, is_near_task}
use Rattle.swarm_objects.specs.Changes.{with_tables}
use Rattle.swarm_objects.specs.World.{Tables, World}
use Rattle.swarm_objects.specs.declared.calls.Op.{Op}
use Rattle.swarm_objects.specs.declared.calls.Query.{Query}
use Rattle.swarm_objects.specs.declared.replies.Refusal.{Refusal}
use Rattle.swarm_objects.specs.declared.replies.Refusal.TheVariants as refusal
use Rattle.swarm_objects.specs.declared.replies.Reply.TheVariants as reply
use Rattle.swarm_objects.specs.declared.replies.ViewReply.{ViewReply}
use Rattle.swarm_objects.specs.declared.rows.Change.{Change}
use Rattle.swarm_objects.specs.declared.watches.Event.{Event}
use Rattle.swarm_objects.specs.ChangeLists.{apply_changes}

pub record Stored : Type 0 where
  -- without sessions
  pub tables : Tables
  -- the events of the last accepted change
  pub changes : List Event

-- the tables but for the sessions, of which a store knows nothing
abbrev pub without_sessions : Tables → Tables
without_sessions t = record t { sessions = [] }

-- how many objects there are
abbrev pub row_count : Tables → ℕ
row_count t = length t.nodes + length t.services + length t.tasks + length t.networks

-- the next id and the times of tasks are below 2^60, as every call may take for granted
pub record HasNearTasks (t : Tables) : Type 0 where
  pub next_id : t.next_id < far_end
  pub times : list_all is_near_task t.tasks ≡ true

-- rows, clock, next id, attempts and settings are equal
abbrev pub StandsFor : Stored → World → Type 0
StandsFor s w = s.tables ≡ without_sessions w.tables

-- as the entry with this number all operations were done, or none; then they are refused so, or memory was wanting
abbrev pub Transacts : ℕ → List Op → World → Stored → Result (List ℕ) Refusal → Stored → Type 0
Transacts version ops w before (Ok ids) after =
    (v : World) × (txn version w ops ≡ Ok (reply.Txn ids, v)) × StandsFor after v
    × (after.changes ≡ changes_between version w.tables v.tables)
Transacts version ops w before (Err r) after =
    ((r ≡ refusal.NoMemory) ⊎ (txn version w ops ≡ Err r)) × (after ≡ before)

-- the query is answered as in the world; or it is refused so, or memory was wanting
abbrev pub Shows : Query → World → Result ViewReply Refusal → Type 0
Shows asked w (Ok view) = shows w.tables asked ≡ Ok view
Shows asked w (Err r) = (r ≡ refusal.NoMemory) ⊎ (shows w.tables asked ≡ Err r)

-- as the entry with this number all changes were applied; or memory was wanting, and nothing changed
abbrev pub AppliesChanges : {A B : Type 0} → ℕ → List Change → World → Stored → Result A B → Stored → Type 0
AppliesChanges version cs w before (Ok done) after =
    StandsFor after (with_tables w (apply_changes w.tables cs))
    × (after.changes ≡ changes_between version w.tables (apply_changes w.tables cs))
AppliesChanges version cs w before (Err e) after = after ≡ before
