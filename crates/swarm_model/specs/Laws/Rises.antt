-- Tasks rise, no id comes back, and none is shared.
use Rattle.std.specs.Prelude.{AllPairs, map, ◌++◌, ◌≢◌, ◌≡◌, None, Option, Some, ℕ, ⊤, ◌≤◌, ◌<◌, List, All, true, ◌⊎◌}
use Rattle.swarm_model.specs.History.{IsLegal}
use Rattle.swarm_model.specs.Laws.Steps.{EachStep}
use Rattle.swarm_objects.specs.Rows.{Has, has_row, watcher_id, network_id, node_id, service_id, task_id}
use Rattle.swarm_objects.specs.Values.Ranks.{desired_rank, rank}
use Rattle.swarm_objects.specs.World.{World, empty_world}
use Rattle.swarm_objects.specs.declared.calls.Entry.{Entry}
use Rattle.swarm_objects.specs.declared.calls.What.{What}
use Rattle.swarm_objects.specs.declared.sessions.NodeSession.{NodeSession}
use Rattle.swarm_objects.specs.declared.tasks.Task.{Task}

-- Tasks rise.

-- what a task keeps
pub record KeepsMaking (old new : Task) : Type 0 where
  pub service : new.service ≡ old.service
  pub place : new.place ≡ old.place
  pub iteration : new.iteration ≡ old.iteration
  pub template : new.template ≡ old.template
  pub born : new.born ≡ old.born
  pub goal : new.goal ≡ old.goal
  pub created : new.created ≡ old.created

-- a node once set is kept
abbrev pub KeepsNode : Option ℕ → Option ℕ → Type 0
KeepsNode None new = ⊤
KeepsNode (Some node) new = new ≡ Some node

pub record TaskRises (old new : Task) : Type 0 where
  pub making : KeepsMaking old new
  pub node : KeepsNode old.node new.node
  pub state : rank old.state ≤ rank new.state
  pub desired : desired_rank old.desired ≤ desired_rank new.desired

-- the task of each id that is in both lists
abbrev pub EachTaskRises : List Task → List Task → Type 0
EachTaskRises old new = (x y : Task) → Has old x → Has new y → x.id ≡ y.id → TaskRises x y

-- each id that is new is none that was given before, and is given now: it lies from the next id before on, below the
-- next one after
abbrev pub ComeAbove : {X : Type 0} → (X → ℕ) → ℕ → ℕ → List X → List X → Type 0
ComeAbove key next end old new =
    All (λ row. (has_row key (key row) old ≡ true) ⊎ ((next ≤ key row) × (key row < end))) new

abbrev pub session_id : NodeSession → ℕ
session_id s = s.session.id

-- the ids of all that has one
abbrev pub ids_of : World → List ℕ
ids_of w =
    map node_id w.tables.nodes ++ map service_id w.tables.services ++ map task_id w.tables.tasks
    ++ map network_id w.tables.networks ++ map session_id w.tables.sessions ++ map watcher_id w.watchers

-- no two things share an id, be they of one kind or of two
abbrev pub NoIdIsShared : World → Type 0
NoIdIsShared w = AllPairs (λ x y. x ≢ y) (ids_of w)

pub record NoIdComesBack (old new : World) : Type 0 where
  pub nodes : ComeAbove node_id old.tables.next_id new.tables.next_id old.tables.nodes new.tables.nodes
  pub services : ComeAbove service_id old.tables.next_id new.tables.next_id old.tables.services new.tables.services
  pub tasks : ComeAbove task_id old.tables.next_id new.tables.next_id old.tables.tasks new.tables.tasks
  pub networks : ComeAbove network_id old.tables.next_id new.tables.next_id old.tables.networks new.tables.networks
  pub sessions : ComeAbove session_id old.tables.next_id new.tables.next_id old.tables.sessions new.tables.sessions
  pub watchers : ComeAbove watcher_id old.tables.next_id new.tables.next_id old.watchers new.watchers
  pub next_id : old.tables.next_id ≤ new.tables.next_id
  pub apart : NoIdIsShared new

pub record Rises (old new : World) : Type 0 where
  pub tasks : EachTaskRises old.tables.tasks new.tables.tasks
  pub ids : NoIdComesBack old new

abbrev pub StepRises : World → What → World → Type 0
StepRises old e new = Rises old new

abbrev pub RisingLaw : Type 0
RisingLaw = (h : List Entry) → IsLegal h → EachStep StepRises empty_world h
