-- Moves of tables: one table changes, or a row comes.
use Rattle.std.proofs.Common.{inl, ◌≡◌, ℕ, ◌+◌, ◌≤◌, Bool, true, false, cond, get_or, ltb, List, [], ◌∷◌, refl, ap, arith, Option, Some, None}
use Rattle.std.specs.Prelude.{map, not, ◌==◌}
use Rattle.std.proofs.lemmas.Bool.Decides.{nat_tests}
use Rattle.swarm_model.proofs.Moves.Ids.{comes-next, times-becomes, times-push}
use Rattle.swarm_model.proofs.Moves.Rows.{Becomes, RisesBetween, becomes-change, becomes-change_any, becomes-change_at, becomes-filter, becomes-same, becomes-where, rows-stay}
use Rattle.swarm_model.proofs.Moves.Worlds.{networks-stay, IsGood, SameId, TablesMove, TaskMoves, sessions-same, tables-same, task-moves, task-same, turns-by, turns-ids, turns-more}
use Rattle.swarm_model.specs.Laws.Rises.{KeepsMaking}
use Rattle.swarm_objects.specs.Changes.{change_node, change_service, change_task, change_where, in_state, on_service, raised_to, wanted, with_new, without_place}
use Rattle.swarm_objects.specs.Rows.{Has, change_row, drop_row, node_id, on_row, row_at, service_id, session_node, task_id}
use Rattle.swarm_objects.specs.Tasks.New.{goal_of, new_task, with_task}
use Rattle.swarm_objects.specs.Tasks.Places.{place_at}
use Rattle.swarm_objects.specs.Values.Ranks.{desired_rank, rank}
use Rattle.swarm_objects.specs.World.{Tables}
use Rattle.swarm_objects.specs.declared.nodes.Node.{Node}
use Rattle.swarm_objects.specs.declared.services.Mode.{Mode}
use Rattle.swarm_objects.specs.declared.services.Mode.TheVariants as mode
use Rattle.swarm_objects.specs.declared.services.Service.{Service}
use Rattle.swarm_objects.specs.declared.tasks.Desired.{Desired}
use Rattle.swarm_objects.specs.declared.tasks.Desired.TheVariants as desired
use Rattle.swarm_objects.specs.declared.tasks.Place.{Place}
use Rattle.swarm_objects.specs.declared.tasks.Task.{Task}
use Rattle.swarm_objects.specs.declared.tasks.TaskState.{TaskState}
use Rattle.swarm_objects.specs.declared.templates.Template.{Template}
use Rattle.swarm_objects.specs.declared.tasks.TaskState.TheVariants as state

-- Ranks.

pub rank-most : (s : TaskState) → rank s ≤ rank state.Orphaned
rank-most state.New = omega arith
rank-most state.Pending = omega arith
rank-most state.Assigned = omega arith
rank-most state.Accepted = omega arith
rank-most state.Preparing = omega arith
rank-most state.Ready = omega arith
rank-most state.Starting = omega arith
rank-most state.Running = omega arith
rank-most state.Complete = omega arith
rank-most state.Shutdown = omega arith
rank-most state.Failed = omega arith
rank-most state.Rejected = omega arith
rank-most state.Remove = omega arith
rank-most state.Orphaned = omega arith

pub desired-least : (d : Desired) → desired_rank desired.Ready ≤ desired_rank d
desired-least desired.Ready = omega arith
desired-least desired.Running = omega arith
desired-least desired.Complete = omega arith
desired-least desired.Shutdown = omega arith
desired-least desired.Remove = omega arith

pub desired-most : (d : Desired) → desired_rank d ≤ desired_rank desired.Remove
desired-most desired.Ready = omega arith
desired-most desired.Running = omega arith
desired-most desired.Complete = omega arith
desired-most desired.Shutdown = omega arith
desired-most desired.Remove = omega arith

-- What becomes of a task.

-- a task keeps what it was made with
abbrev pub made : Task → Place × Template × Desired × List ℕ
made x = (x.place, x.template, x.goal, x.service ∷ x.iteration ∷ x.born ∷ x.created ∷ [])

pub keeps-made : (x y : Task) → made y ≡ made x → KeepsMaking x y
keeps-made x y e = record {
  service = ap (λ (m : Place × Template × Desired × List ℕ). get_or m.3 0 0) e;
  place = ap (λ (m : Place × Template × Desired × List ℕ). m.0) e;
  iteration = ap (λ (m : Place × Template × Desired × List ℕ). get_or m.3 1 0) e;
  template = ap (λ (m : Place × Template × Desired × List ℕ). m.1) e;
  born = ap (λ (m : Place × Template × Desired × List ℕ). get_or m.3 2 0) e;
  goal = ap (λ (m : Place × Template × Desired × List ℕ). m.2) e;
  created = ap (λ (m : Place × Template × Desired × List ℕ). get_or m.3 3 0) e;
}

-- the state and what is wanted of it rise; its number, its making and its node stay
pub moves-by : (x y : Task) → y.id ≡ x.id → made y ≡ made x → y.node ≡ x.node → rank x.state ≤ rank y.state →
    desired_rank x.desired ≤ desired_rank y.desired → TaskMoves x y
moves-by x y id made node s d = task-moves x y id (keeps-made x y made) node s d

pub moves-in_state : (version clock : ℕ) (s : TaskState) (x : Task) → rank x.state ≤ rank s →
    TaskMoves x (in_state version clock s x)
moves-in_state version clock s x up =
    moves-by x (in_state version clock s x) refl refl refl up (omega arith)

pub moves-wanted : (version : ℕ) (d : Desired) (x : Task) → desired_rank x.desired ≤ desired_rank d →
    TaskMoves x (wanted version d x)
moves-wanted version d x up = moves-by x (wanted version d x) refl refl refl (omega arith) up

pub moves-raised_to : (version clock : ℕ) (s : TaskState) (x : Task) → TaskMoves x (raised_to version clock s x)
moves-raised_to version clock s x = go (ltb (rank x.state) (rank s)) refl
  where
    go : (b : Bool) → ltb (rank x.state) (rank s) ≡ b → TaskMoves x (cond b (in_state version clock s x) x)
    go true e = moves-in_state version clock s x (grind (arith, nat_tests, e))
    go false e = task-same x

-- One table.

pub move-tasks : (t : Tables) (tasks : List Task) → Becomes TaskMoves [] t.tasks tasks →
    TablesMove t (record t { tasks = tasks })
move-tasks t tasks rows = record {
  next = omega arith;
  nodes = turns-ids t.nodes;
  services = turns-ids t.services;
  tasks = turns-by rows;
  networks = networks-stay t.networks;
  sessions = sessions-same t.sessions t.next_id t.next_id;
  opens = rows-stay session_node t.next_id t.next_id t.sessions (omega arith);
  ids = λ i. inl (omega (arith, times-becomes task_id TaskMoves (λ x y m. m.id) i t.tasks tasks rows));
}

pub move-services : (t : Tables) (services : List Service) → Becomes (SameId service_id) [] t.services services →
    TablesMove t (record t { services = services })
move-services t services rows = record {
  next = omega arith;
  nodes = turns-ids t.nodes;
  services = turns-by rows;
  tasks = turns-by (becomes-same TaskMoves task-same t.tasks);
  networks = networks-stay t.networks;
  sessions = sessions-same t.sessions t.next_id t.next_id;
  opens = rows-stay session_node t.next_id t.next_id t.sessions (omega arith);
  ids = λ i. inl (omega (arith, times-becomes service_id (SameId service_id) (λ x y e. e) i t.services services rows));
}

pub move-nodes : (t : Tables) (nodes : List Node) → Becomes (SameId node_id) [] t.nodes nodes →
    TablesMove t (record t { nodes = nodes })
move-nodes t nodes rows = record {
  next = omega arith;
  nodes = turns-by rows;
  services = turns-ids t.services;
  tasks = turns-by (becomes-same TaskMoves task-same t.tasks);
  networks = networks-stay t.networks;
  sessions = sessions-same t.sessions t.next_id t.next_id;
  opens = rows-stay session_node t.next_id t.next_id t.sessions (omega arith);
  ids = λ i. inl (omega (arith, times-becomes node_id (SameId node_id) (λ x y e. e) i t.nodes nodes rows));
}

pub move-node : (t : Tables) (id : ℕ) (f : Node → Node) → ((n : Node) → (f n).id ≡ n.id) → TablesMove t (change_node id f t)
move-node t id f same =
    move-nodes t (change_row node_id id f t.nodes)
    (becomes-change_any (SameId node_id) node_id id f t.nodes (λ n. refl) (λ n h. same n))

-- whatever the change leans on
pub move-node_at : (t : Tables) (id : ℕ) (f : Node → Node) → ((n : Node) → n.id ≡ id → (f n).id ≡ n.id) →
    TablesMove t (change_node id f t)
move-node_at t id f same =
    move-nodes t (change_row node_id id f t.nodes)
    (becomes-change_at (SameId node_id) node_id id f t.nodes (λ n. refl) (λ n h e. same n e))

pub move-service : (t : Tables) (id : ℕ) (f : Service → Service) → ((s : Service) → s.id ≡ id → (f s).id ≡ s.id) →
    TablesMove t (change_service id f t)
move-service t id f same =
    move-services t (change_row service_id id f t.services)
    (becomes-change_at (SameId service_id) service_id id f t.services (λ s. refl) (λ s h e. same s e))

-- whatever task has the number
pub move-any_task : (t : Tables) (id : ℕ) (f : Task → Task) → ((x : Task) → Has t.tasks x → TaskMoves x (f x)) →
    TablesMove t (change_task id f t)
move-any_task t id f each =
    move-tasks t (change_row task_id id f t.tasks) (becomes-change_any TaskMoves task_id id f t.tasks task-same each)

-- this task
pub move-task : (t : Tables) (x : Task) (f : Task → Task) → RisesBetween task_id 1 t.next_id t.tasks → Has t.tasks x →
    TaskMoves x (f x) → TablesMove t (change_task x.id f t)
move-task t x f rises there one =
    move-tasks t (change_row task_id x.id f t.tasks)
    (becomes-change TaskMoves task_id 1 t.next_id f t.tasks x task-same rises there one)

pub move-where : (t : Tables) (test : Task → Bool) (f : Task → Task) →
    ((x : Task) → Has t.tasks x → test x ≡ true → TaskMoves x (f x)) → TablesMove t (change_where test f t)
move-where t test f each =
    move-tasks t (map (λ x. cond (test x) (f x) x) t.tasks) (becomes-where TaskMoves test f t.tasks task-same each)

pub move-drop : (t : Tables) (id : ℕ) → TablesMove t (record t { tasks = drop_row task_id id t.tasks })
move-drop t id =
    move-tasks t (drop_row task_id id t.tasks)
    (becomes-filter TaskMoves (λ x. not (task_id x == id)) task-same t.tasks)

-- A task comes.

goal-most : (m : Mode) → desired_rank (goal_of m) ≤ desired_rank desired.Complete
goal-most (mode.Replicated n) = omega arith
goal-most mode.Global = omega arith
goal-most (mode.Job c n) = omega arith

pub good-new : (version : ℕ) (t : Tables) (s : Service) (p : Place) (d : Desired) → IsGood (new_task version t s p d)
good-new version t s p d = record { goal = goal-most s.spec.mode; bound = λ below. refl }

pub move-add : (t : Tables) (x : Task) → x.id ≡ t.next_id → IsGood x → TablesMove t (with_task t x)
move-add t x id good = record {
  next = omega arith;
  nodes = turns-ids t.nodes;
  services = turns-ids t.services;
  tasks =
      turns-more task_id TaskMoves IsGood t.next_id t.tasks t.tasks x (becomes-same TaskMoves task-same t.tasks) id good;
  networks = networks-stay t.networks;
  sessions = sessions-same t.sessions t.next_id (t.next_id + 1);
  opens = rows-stay session_node t.next_id (t.next_id + 1) t.sessions (omega arith);
  ids = λ i. comes-next t.next_id i x.id _ _ id (omega (arith, times-push task_id i t.tasks x));
}

pub move-new : (version : ℕ) (d : Desired) (t : Tables) (s : Service) (k : ℕ) → TablesMove t (with_new version d t s k)
move-new version d t s k =
    move-add t (new_task version t s (place_at s.spec.mode k) d) refl (good-new version t s (place_at s.spec.mode k) d)

pub move-place_gone : (version : ℕ) (t : Tables) (s : Service) (k : ℕ) → TablesMove t (without_place version t s k)
move-place_gone version t s k =
    move-where t _ (wanted version desired.Remove)
    (λ x h passes. moves-wanted version desired.Remove x (desired-most x.desired))

-- Where the row is there.

pub move-on_service : (t : Tables) (s : ℕ) (use_service : Service → Tables) → ((v : Service) → TablesMove t (use_service v)) →
    TablesMove t (on_service t s use_service)
move-on_service t s use_service each = go (row_at service_id s t.services)
  where
    go : (o : Option Service) → TablesMove t (on_row t use_service o)
    go None = tables-same t
    go (Some v) = each v
