-- What a law of tables has to say of each kind of change, so that every duty and every call keeps it.
use Rattle.std.proofs.Common.{Bool, List, None, Option, Some, [], ap, arith, cond, eqb, false, inl, inr, ltb, refl, true, ℕ, ◌++◌, ◌+◌, ◌∙◌, ◌∷◌, ◌≡◌, ◌≤◌, ◌⊎◌}
use Rattle.std.proofs.lemmas.Bool.Decides.{nat_tests}
use Rattle.std.specs.Prelude.{find, map, nat_le, ◌&&◌}
use Rattle.swarm_model.proofs.Moves.Duties.{closed-moves, noted-moves, placed-most, raised-moves}
use Rattle.swarm_model.proofs.Moves.Rows.{Becomes, RisesBetween, becomes-cases}
use Rattle.swarm_model.proofs.Moves.Tables.{moves-in_state, moves-wanted}
use Rattle.swarm_model.proofs.Moves.Worlds.{Any, IsGood, IsOrderly, SameId, TablesMove, TaskMoves, good-moves, task-same, turns-between}
use Rattle.swarm_model.specs.Calls.Nodes.{tables_without_node}
use Rattle.swarm_model.specs.Calls.Refusals.{port_taken}
use Rattle.swarm_objects.specs.NewRows.{same_mode}
use Rattle.swarm_model.specs.Calls.Remote.{begun_tables}
use Rattle.swarm_model.specs.Calls.Services.{broken_draft, filled, new_service, with_service}
use Rattle.swarm_objects.specs.NewRows.{respecified}
use Rattle.swarm_objects.specs.Changes.{change_node, change_service, change_task, id_taken, in_state, noted, placed, raised_to, wanted}
use Rattle.swarm_objects.specs.Loops.Agents.{after_beat}
use Rattle.swarm_objects.specs.Loops.Allocator.{gets_address, port_number, with_addresses, with_port}
use Rattle.swarm_objects.specs.Loops.Restart.{closed_by, raised, wants_raise}
use Rattle.swarm_objects.specs.Loops.Scheduler.{is_to_place}
use Rattle.swarm_objects.specs.Loops.Update.{back_at, rolled_back}
use Rattle.swarm_objects.specs.Nodes.BestNode.{best_node}
use Rattle.swarm_objects.specs.Nodes.Sessions.{registered}
use Rattle.swarm_objects.specs.Rows.{Has, node_id, service_id, task_id}
use Rattle.swarm_objects.specs.Rules.Settings.{settings_break, settings_rules}
use Rattle.swarm_objects.specs.Same.{same_template}
use Rattle.swarm_objects.specs.Services.Ports.{free_port}
use Rattle.swarm_objects.specs.Tasks.New.{goal_of, with_task}
use Rattle.swarm_objects.specs.Tasks.Places.{is_in_place, place_at}
use Rattle.swarm_objects.specs.Tasks.Words.{is_live, is_placed}
use Rattle.swarm_objects.specs.Values.Ranks.{desired_rank, rank}
use Rattle.swarm_objects.specs.World.{Tables, World}
use Rattle.swarm_objects.specs.declared.networks.Network.{Network}
use Rattle.swarm_objects.specs.declared.nodes.Node.{Node}
use Rattle.swarm_objects.specs.declared.services.Draft.{Draft}
use Rattle.swarm_objects.specs.declared.services.Replaced.{Replaced}
use Rattle.swarm_objects.specs.declared.services.Service.{Service}
use Rattle.swarm_objects.specs.declared.services.ServiceSpec.{ServiceSpec}
use Rattle.swarm_objects.specs.declared.services.UpdateRun.{UpdateRun}
use Rattle.swarm_objects.specs.declared.settings.Settings.{Settings}
use Rattle.swarm_objects.specs.declared.tasks.Attempt.{Attempt}
use Rattle.swarm_objects.specs.declared.tasks.Closed.{Closed}
use Rattle.swarm_objects.specs.declared.tasks.Desired.{Desired}
use Rattle.swarm_objects.specs.declared.tasks.Note.{Note}
use Rattle.swarm_objects.specs.declared.tasks.Place.{Place}
use Rattle.swarm_objects.specs.declared.tasks.Task.{Task}
use Rattle.swarm_objects.specs.declared.tasks.TaskState.TheVariants as state
use Rattle.swarm_objects.specs.declared.tasks.TaskState.{TaskState}

-- the tables of an orderly world
pub record InOrder (t : Tables) : Type 0 where
  pub next : 1 ≤ t.next_id
  pub nodes : RisesBetween node_id 1 t.next_id t.nodes
  pub services : RisesBetween service_id 1 t.next_id t.services
  pub tasks : RisesBetween task_id 1 t.next_id t.tasks
  pub good : (x : Task) → Has t.tasks x → IsGood x

pub order-of : (w : World) → IsOrderly w → InOrder w.tables
order-of w is = record { next = is.next; nodes = is.nodes; services = is.services; tasks = is.tasks; good = is.good }

pub in-order-moves : (t u : Tables) → InOrder t → TablesMove t u → InOrder u
in-order-moves t u is m = record {
  next = omega (arith, is.next, m.next);
  nodes = turns-between node_id (SameId node_id) Any (λ x y h. h) _ _ _ _ is.next m.next is.nodes m.nodes;
  services = turns-between service_id (SameId service_id) Any
      (λ x y h. h) _ _ _ _ is.next m.next is.services m.services;
  tasks = turns-between task_id TaskMoves IsGood (λ x y h. h.id) _ _ _ _ is.next m.next is.tasks m.tasks;
  good = λ y h.
      elim (becomes-cases TaskMoves m.tasks.more t.tasks u.tasks m.tasks.rows y h) [
        | inl r ↦ good-moves r.0 y r.2 (is.good r.0 r.1)
        | inr x ↦ m.tasks.asked y x
      ];
}

-- the time is the old one or this one
abbrev pub IsOldOr : ℕ → ℕ → ℕ → Type 0
IsOldOr clock old new = (new ≡ old) ⊎ (new ≡ clock)

-- a task that gets no address and isn't placed
pub record Lightens (clock : ℕ) (x y : Task) : Type 0 where
  pub moves : TaskMoves x y
  pub raise_at : y.raise_at ≡ x.raise_at
  pub since : IsOldOr clock x.since y.since
  pub addresses : y.addresses ≡ x.addresses
  pub placed : is_placed y ≡ true → is_placed x ≡ true

-- a service whose specifications and numbers stay
pub record Runs (clock : ℕ) (x y : Service) : Type 0 where
  pub id : y.id ≡ x.id
  pub spec : y.spec ≡ x.spec
  pub previous : y.previous ≡ x.previous
  pub iteration : y.iteration ≡ x.iteration
  pub numbers : y.numbers ≡ x.numbers
  pub run : (r : UpdateRun) → y.run ≡ Some r → (i : Replaced) → Has r.replaced i →
      ((q : UpdateRun) × (x.run ≡ Some q) × Has q.replaced i) ⊎ (i.created ≡ clock)

-- a node that keeps its resources
pub record SameRoom (clock : ℕ) (x y : Node) : Type 0 where
  pub id : y.id ≡ x.id
  pub cpu : y.cpu ≡ x.cpu
  pub mem : y.mem ≡ x.mem
  pub down_since : IsOldOr clock x.down_since y.down_since

-- a place of the service by its number, or that of a task of the service
abbrev pub IsPlaceOf : Tables → Service → Place → Type 0
IsPlaceOf t s p =
    ((k : ℕ) × (p ≡ place_at s.spec.mode k)) ⊎ ((y : Task) × Has t.tasks y × (y.service ≡ s.id) × (p ≡ y.place))

-- a new task of the service, which no live task of its place is like
pub record IsNewOf (t : Tables) (s : Service) (x : Task) : Type 0 where
  pub id : x.id ≡ t.next_id
  pub service : x.service ≡ s.id
  pub iteration : x.iteration ≡ s.iteration
  pub template : x.template ≡ s.spec.template
  pub state : x.state ≡ state.New
  pub addresses : x.addresses ≡ []
  pub since : x.since ≡ t.clock
  pub created : x.created ≡ t.clock
  pub raise_at : x.raise_at ≤ t.clock + s.spec.template.restart.delay
  pub good : IsGood x
  pub goal : x.goal ≡ goal_of s.spec.mode
  pub place : IsPlaceOf t s x.place
  pub alone : (y : Task) → Has t.tasks y → is_in_place s x.place y ≡ true → is_live y ≡ true →
      same_template y.template x.template ≡ false

-- the draft breaks no rule, and no other service holds its ports
pub record IsTaken (t : Tables) (own : Option ℕ) (d : Draft) : Type 0 where
  pub rules : broken_draft d ≡ None
  pub ports : port_taken t own d.spec.ports ≡ None

-- each kind of change keeps the law
pub record Keeps (Q : Tables → Type 0) : Type 0 where
  pub tasks : (t : Tables) (new : List Task) → InOrder t → Q t → Becomes (Lightens t.clock) [] t.tasks new →
      Q (record t { tasks = new })
  pub address : (version : ℕ) (t : Tables) (x : Task) → InOrder t → Q t → Has t.tasks x → gets_address t x ≡ true →
      Q (change_task x.id (with_addresses version t) t)
  pub place : (version : ℕ) (t : Tables) (x : Task) (m : Node) → InOrder t → Q t → Has t.tasks x →
      is_to_place x ≡ true →
      best_node t x ≡ Some m → Q (change_task x.id (placed version t.clock m.id) t)
  pub comes : (t : Tables) (s : Service) (x : Task) → InOrder t → Q t → Has t.services s → IsNewOf t s x → Q
      (with_task t x)
  pub runs : (t : Tables) (new : List Service) → InOrder t → Q t → Becomes (Runs t.clock) [] t.services new →
      Q (record t { services = new })
  pub port : (version : ℕ) (t : Tables) (s target : ℕ) (udp : Bool) (number : ℕ) → InOrder t → Q t →
      free_port t udp ≡ Some number → Q (change_service s (with_port version (port_number target udp number)) t)
  pub fails : (version : ℕ) (t : Tables) (s : Service) (spec : ServiceSpec) → InOrder t → Q t → Has t.services s →
      s.previous ≡ Some spec → Q (rolled_back version t (back_at version spec s))
  pub updates : (version : ℕ) (t : Tables) (s : Service) (d : Draft) → InOrder t → Q t → Has t.services s →
      same_mode d.spec.mode s.spec.mode ≡ true → IsTaken t (Some s.id) d →
      Q (change_service s.id (λ old. respecified version false (filled t d) s) t)
  pub rolls_back : (version : ℕ) (t : Tables) (s : Service) (spec : ServiceSpec) → InOrder t → Q t → Has t.services s →
      s.previous ≡ Some spec → Q (change_service s.id (λ old. respecified version true spec s) t)
  pub service_comes : (version : ℕ) (t : Tables) (name : List ℕ) (d : Draft) → InOrder t → Q t → IsTaken t None d →
      Q (with_service t (new_service version t name d))
  pub attempts : (t : Tables) (new : List Attempt) → Q t →
      ((a : Attempt) → Has new a → Has t.attempts a ⊎ (a.at ≡ t.clock)) → Q (record t { attempts = new })
  pub nodes : (t : Tables) (f : Node → Node) → InOrder t → Q t → ((n : Node) → Has t.nodes n → SameRoom t.clock n
      (f n)) →
      Q (record t { nodes = map f t.nodes })
  pub node_comes : (t : Tables) (n : Node) → InOrder t → Q t → n.id ≡ t.next_id → n.down_since ≡ 0 →
      Q (record (id_taken t) { nodes = t.nodes ++ n ∷ [] })
  pub node_goes : (version : ℕ) (t : Tables) (id : ℕ) → InOrder t → Q t → Q (tables_without_node version t id)
  pub begins : (version : ℕ) (t : Tables) (n : Node) (cpu mem : ℕ) → InOrder t → Q t → Has t.nodes n →
      Q (begun_tables version t n.id cpu mem)
  pub registers : (version : ℕ) (t : Tables) (node : ℕ) → InOrder t → Q t → Q (registered version t node)
  pub beats : (t : Tables) (node : ℕ) → Q t → Q (after_beat t node)
  pub networks : (t : Tables) (new : List Network) → Q t → Q (record t { networks = new })
  pub ids : (t : Tables) → InOrder t → Q t → Q (id_taken t)
  pub ticks : (t : Tables) (ms : ℕ) → Q t → Q (record t { clock = t.clock + ms })
  pub settings : (t : Tables) (s : Settings) → find (settings_break s) settings_rules ≡ None → Q t →
      Q (record t { settings = s })

-- a node is changed
pub node-keeps : (Q : Tables → Type 0) → Keeps Q → (t : Tables) (id : ℕ) (f : Node → Node) → InOrder t → Q t →
    ((n : Node) → Has t.nodes n → n.id ≡ id → SameRoom t.clock n (f n)) → Q (change_node id f t)
node-keeps Q keeps t id f is q each =
    keeps.nodes t (λ n. cond (eqb (node_id n) id) (f n) n) is q (λ n h. go n h (eqb (node_id n) id) refl)
  where
    go : (n : Node) → Has t.nodes n → (b : Bool) → eqb (node_id n) id ≡ b → SameRoom t.clock n (cond b (f n) n)
    go n h true e = each n h (grind (arith, nat_tests, e))
    go n h false e = record { id = refl; cpu = refl; mem = refl; down_since = inl refl }

-- Tasks that lighten.

pub lighten-same : (clock : ℕ) (x : Task) → Lightens clock x x
lighten-same clock x = record {
  moves = task-same x;
  raise_at = refl;
  since = inl refl;
  addresses = refl;
  placed = λ p. p;
}

pub lighten-noted : (clock version : ℕ) (n : Note) (x : Task) → Lightens clock x (noted version n x)
lighten-noted clock version n x = record {
  moves = noted-moves version n x;
  raise_at = refl;
  since = inl refl;
  addresses = refl;
  placed = λ p. p;
}

pub lighten-closed : (clock version : ℕ) (cause : Closed) (x : Task) → Lightens clock x (closed_by version cause x)
lighten-closed clock version cause x = record {
  moves = closed-moves version cause x;
  raise_at = refl;
  since = inl refl;
  addresses = refl;
  placed = λ p. p;
}

pub lighten-wanted : (clock version : ℕ) (d : Desired) (x : Task) → desired_rank x.desired ≤ desired_rank d →
    Lightens clock x (wanted version d x)
lighten-wanted clock version d x up = record {
  moves = moves-wanted version d x up;
  raise_at = refl;
  since = inl refl;
  addresses = refl;
  placed = λ p. p;
}

pub lighten-raised : (version : ℕ) (t : Tables) (x : Task) → wants_raise t x ≡ true → Lightens t.clock x
    (raised version x)
lighten-raised version t x e = record {
  moves = raised-moves version t x e;
  raise_at = refl;
  since = inl refl;
  addresses = refl;
  placed = λ p. p;
}

-- a state that isn't a placed one
pub lighten-in_state : (version clock : ℕ) (s : TaskState) (x : Task) → rank x.state ≤ rank s →
    (is_placed (in_state version clock s x) ≡ true → is_placed x ≡ true) → Lightens clock x (in_state version clock s x)
lighten-in_state version clock s x up placed = record {
  moves = moves-in_state version clock s x up;
  raise_at = refl;
  since = inr refl;
  addresses = refl;
  placed = placed;
}

placed-between : (x : Task) (s : TaskState) → rank state.Assigned ≤ rank x.state → rank x.state ≤ rank s →
    rank s ≤ rank state.Running → is_placed x ≡ true
placed-between x s low up high =
    let a : nat_le (rank state.Assigned) (rank x.state) ≡ true = grind (arith, nat_tests, low) in
    let b : nat_le (rank x.state) (rank state.Running) ≡ true = grind (arith, nat_tests, up, high) in
    ap (λ (z : Bool). z && nat_le (rank x.state) (rank state.Running)) a ∙ b

-- a task that is at least ASSIGNED is raised
pub lighten-raised_to : (version clock : ℕ) (s : TaskState) (x : Task) → rank state.Assigned ≤ rank x.state →
    Lightens clock x (raised_to version clock s x)
lighten-raised_to version clock s x low = go (ltb (rank x.state) (rank s)) refl
  where
    go : (b : Bool) → ltb (rank x.state) (rank s) ≡ b → Lightens clock x (cond b (in_state version clock s x) x)
    go true e =
        let up : rank x.state ≤ rank s = grind (arith, nat_tests, e) in
        lighten-in_state version clock s x up (λ p. placed-between x s low up
        (placed-most (in_state version clock s x) p))
    go false e = lighten-same clock x
