-- What a step does to a world: each table's rows change, go and come.
use Rattle.std.proofs.Common.{true, ◌≡◌, ℕ, ◌+◌, ◌<◌, ◌≤◌, ◌⊎◌, inl, inr, List, [], ◌∷◌, ◌++◌, refl, sym, ap, ◌∙◌, subst, arith, Option, Some, None}
use Rattle.std.specs.Prelude.{⊤}
use Rattle.swarm_model.proofs.Moves.Ids.{Comes, comes-then, in_tables, in_world}
use Rattle.swarm_model.proofs.Moves.Rows.{Becomes, RisesBetween, becomes-cases, becomes-more, becomes-same, becomes-then, between-becomes, rows-stay}
use Rattle.swarm_model.specs.Laws.Rises.{KeepsMaking, KeepsNode, TaskRises}
use Rattle.swarm_objects.specs.Rows.{Has, agent_node, network_id, node_id, sent_node, service_id, session_node, task_id, watcher_id}
use Rattle.swarm_objects.specs.Sound.{is_subnet}
use Rattle.swarm_objects.specs.Tasks.New.{bound_node}
use Rattle.swarm_objects.specs.Values.Ranks.{desired_rank, rank}
use Rattle.swarm_objects.specs.World.{Tables, World}
use Rattle.swarm_objects.specs.declared.sessions.NodeSession.{NodeSession}
use Rattle.swarm_objects.specs.declared.networks.Network.{Network}
use Rattle.swarm_objects.specs.declared.tasks.Desired.TheVariants as desired
use Rattle.swarm_objects.specs.declared.tasks.Task.{Task}
use Rattle.swarm_objects.specs.declared.tasks.TaskState.TheVariants as state

-- Tasks.

-- what is true of each task: its goal is at most COMPLETE, and below ASSIGNED it has a node only as its place
pub record IsGood (x : Task) : Type 0 where
  pub goal : desired_rank x.goal ≤ desired_rank desired.Complete
  pub bound : rank x.state < rank state.Assigned → x.node ≡ bound_node x.place

-- what any step makes of a task: it rises, and gets no node before it is ASSIGNED
pub record TaskMoves (x y : Task) : Type 0 where
  pub id : y.id ≡ x.id
  pub rises : TaskRises x y
  pub unplaced : rank y.state < rank state.Assigned → y.node ≡ x.node

making-same : (x : Task) → KeepsMaking x x
making-same x = record {
  service = refl;
  place = refl;
  iteration = refl;
  template = refl;
  born = refl;
  goal = refl;
  created = refl;
}

node-same : (node : Option ℕ) → KeepsNode node node
node-same None = tt
node-same (Some n) = refl

-- the state and what is wanted of it rise; all else that counts stays
pub task-moves : (x y : Task) → y.id ≡ x.id → KeepsMaking x y → y.node ≡ x.node → rank x.state ≤ rank y.state →
    desired_rank x.desired ≤ desired_rank y.desired → TaskMoves x y
task-moves x y id making node s d = record {
  id = id;
  rises = record {
    making = making;
    node = subst (λ n. KeepsNode x.node n) (sym node) (node-same x.node);
    state = s;
    desired = d;
  };
  unplaced = λ below. node;
}

pub task-same : (x : Task) → TaskMoves x x
task-same x = task-moves x x refl (making-same x) refl (omega arith) (omega arith)

node-then : (a b c : Option ℕ) → KeepsNode a b → KeepsNode b c → KeepsNode a c
node-then None b c h k = tt
node-then (Some n) b c h k = subst (λ o. KeepsNode o c) h k

pub task-then : (x y z : Task) → TaskMoves x y → TaskMoves y z → TaskMoves x z
task-then x y z h k = record {
  id = k.id ∙ h.id;
  rises = record {
    making = record {
      service = k.rises.making.service ∙ h.rises.making.service;
      place = k.rises.making.place ∙ h.rises.making.place;
      iteration = k.rises.making.iteration ∙ h.rises.making.iteration;
      template = k.rises.making.template ∙ h.rises.making.template;
      born = k.rises.making.born ∙ h.rises.making.born;
      goal = k.rises.making.goal ∙ h.rises.making.goal;
      created = k.rises.making.created ∙ h.rises.making.created;
    };
    node = node-then x.node y.node z.node h.rises.node k.rises.node;
    state = omega (arith, h.rises.state, k.rises.state);
    desired = omega (arith, h.rises.desired, k.rises.desired);
  };
  unplaced = λ below. k.unplaced below ∙ h.unplaced (omega (arith, below, k.rises.state));
}

pub good-moves : (x y : Task) → TaskMoves x y → IsGood x → IsGood y
good-moves x y m good = record {
  goal = subst (λ d. desired_rank d ≤ desired_rank desired.Complete) (sym m.rises.making.goal) good.goal;
  bound = λ below.
      m.unplaced below ∙ good.bound (omega (arith, below, m.rises.state)) ∙ ap bound_node (sym m.rises.making.place);
}

-- Tables.

abbrev pub SameId : {X : Type 0} → (X → ℕ) → X → X → Type 0
SameId key x y = key y ≡ key x

-- rows that keep their numbers, and further ones, which have new numbers and are as is asked
pub record Turns {X : Type 0} (key : X → ℕ) (R : X → X → Type 0) (Asked : X → Type 0) (next high : ℕ) (old new : List X) : Type 0 where
  pub more : List X
  pub rows : Becomes R more old new
  pub fresh : RisesBetween key next high more
  pub asked : (x : X) → Has more x → Asked x

abbrev pub Any : {X : Type 0} → X → Type 0
Any x = ⊤

-- a network stays as it is, and its subnet breaks no rule
abbrev pub Stays : Network → Network → Type 0
Stays x y = y ≡ x

abbrev pub IsSubnet : Network → Type 0
IsSubnet n = is_subnet n ≡ true

-- a session is one that was there, of its node, or one with a new id
abbrev pub ComesFrom : List NodeSession → ℕ → ℕ → NodeSession → Type 0
ComesFrom old next high s =
    ((r : NodeSession) × Has old r × (r.node ≡ s.node) × (r.session.id ≡ s.session.id))
    ⊎ ((next ≤ s.session.id) × (s.session.id < high))

pub record TablesMove (t u : Tables) : Type 0 where
  pub next : t.next_id ≤ u.next_id
  pub nodes : Turns node_id (SameId node_id) Any t.next_id u.next_id t.nodes u.nodes
  pub services : Turns service_id (SameId service_id) Any t.next_id u.next_id t.services u.services
  pub tasks : Turns task_id TaskMoves IsGood t.next_id u.next_id t.tasks u.tasks
  pub networks : Turns network_id Stays IsSubnet t.next_id u.next_id t.networks u.networks
  pub sessions : (s : NodeSession) → Has u.sessions s → ComesFrom t.sessions t.next_id u.next_id s
  pub opens : RisesBetween session_node 1 t.next_id t.sessions → RisesBetween session_node 1 u.next_id u.sessions
  pub ids : (k : ℕ) → Comes t.next_id u.next_id k (in_tables k t) (in_tables k u)

-- what was sent, and the agents, stand by rising node
abbrev pub SentRise : World → Type 0
SentRise w = RisesBetween sent_node 1 w.tables.next_id w.sent

abbrev pub AgentsRise : World → Type 0
AgentsRise w = RisesBetween agent_node 1 w.tables.next_id w.agents

pub record Moves (w v : World) : Type 0 where
  pub tables : TablesMove w.tables v.tables
  pub watchers : Turns watcher_id (SameId watcher_id) Any w.tables.next_id v.tables.next_id w.watchers v.watchers
  pub sent : SentRise w → SentRise v
  pub agents : AgentsRise w → AgentsRise v
  pub ids : (k : ℕ) → Comes w.tables.next_id v.tables.next_id k (in_world k w) (in_world k v)

-- what every world is: rows rise by numbers from 1 on, below the next one, no number is two rows' id, and tasks are good
pub record IsOrderly (w : World) : Type 0 where
  pub next : 1 ≤ w.tables.next_id
  pub nodes : RisesBetween node_id 1 w.tables.next_id w.tables.nodes
  pub services : RisesBetween service_id 1 w.tables.next_id w.tables.services
  pub tasks : RisesBetween task_id 1 w.tables.next_id w.tables.tasks
  pub networks : RisesBetween network_id 1 w.tables.next_id w.tables.networks
  pub sessions : RisesBetween session_node 1 w.tables.next_id w.tables.sessions
  pub watchers : RisesBetween watcher_id 1 w.tables.next_id w.watchers
  pub sent : SentRise w
  pub agents : AgentsRise w
  pub ids : (k : ℕ) → Comes 0 w.tables.next_id k 0 (in_world k w)
  pub good : (x : Task) → Has w.tables.tasks x → IsGood x
  pub subnets : (n : Network) → Has w.tables.networks n → IsSubnet n

-- Turns.

-- no row comes
pub turns-by : {X : Type 0} {key : X → ℕ} {R : X → X → Type 0} {Asked : X → Type 0} {next high : ℕ} {old new : List X} →
    Becomes R [] old new → Turns key R Asked next high old new
turns-by rows = record { more = []; rows = rows; fresh = tt; asked = λ x h. absurd h }

pub turns-ids : {X : Type 0} {key : X → ℕ} {next high : ℕ} (rows : List X) → Turns key (SameId key) Any next high rows rows
turns-ids {key = key} rows = turns-by (becomes-same (SameId key) (λ x. refl) rows)

pub networks-stay : {next high : ℕ} (rows : List Network) → Turns network_id Stays IsSubnet next high rows rows
networks-stay rows = turns-by (becomes-same Stays (λ x. refl) rows)

-- one row comes, with the next number
pub turns-more : {X : Type 0} (key : X → ℕ) (R : X → X → Type 0) (Asked : X → Type 0) (next : ℕ) (old new : List X) (x : X) →
    Becomes R [] old new → key x ≡ next → Asked x → Turns key R Asked next (next + 1) old (new ++ x ∷ [])
turns-more key R Asked next old new x rows id asked = record {
  more = x ∷ [];
  rows = becomes-more R (x ∷ []) old new rows;
  fresh = (omega (arith, id), omega (arith, id), tt);
  asked = λ y h. elim h [ inl e ↦ subst Asked e asked | inr none ↦ absurd none ];
}

pub turns-then : {X : Type 0} (key : X → ℕ) (R : X → X → Type 0) (Asked : X → Type 0) →
    ((x y z : X) → R x y → R y z → R x z) → ((x y : X) → R x y → key y ≡ key x) → ((x y : X) → R x y → Asked x → Asked y) →
    (next mid high : ℕ) (a b c : List X) → next ≤ mid → mid ≤ high → Turns key R Asked next mid a b →
    Turns key R Asked mid high b c → Turns key R Asked next high a c
turns-then key R Asked join keeps still next mid high a b c low up first second =
    let both = becomes-then R join first.more second.more a b c first.rows second.rows in
    record {
      more = both.0;
      rows = both.1;
      fresh =
          between-becomes R key keeps next mid high second.more first.more both.0 low up first.fresh second.fresh both.2;
      asked = λ y h.
          elim (becomes-cases R second.more first.more both.0 both.2 y h) [
            | inl r ↦ still r.0 y r.2 (first.asked r.0 r.1)
            | inr m ↦ second.asked y m
          ];
    }

pub turns-between : {X : Type 0} (key : X → ℕ) (R : X → X → Type 0) (Asked : X → Type 0) → ((x y : X) → R x y → key y ≡ key x) →
    (next high : ℕ) (old new : List X) → 1 ≤ next → next ≤ high → RisesBetween key 1 next old →
    Turns key R Asked next high old new → RisesBetween key 1 high new
turns-between key R Asked keeps next high old new low up rises turns =
    between-becomes R key keeps 1 next high turns.more old new low up rises turns.fresh turns.rows

pub ids-then : {X : Type 0} (key : X → ℕ) (next mid high : ℕ) (a b c : List X) → next ≤ mid → mid ≤ high →
    Turns key (SameId key) Any next mid a b → Turns key (SameId key) Any mid high b c →
    Turns key (SameId key) Any next high a c
ids-then key =
    turns-then key (SameId key) Any (λ x y z h k. k ∙ h) (λ x y h. h) (λ x y h k. tt)

-- Moves of tables.

pub sessions-same : (sessions : List NodeSession) (next high : ℕ) (s : NodeSession) → Has sessions s → ComesFrom sessions next high s
sessions-same sessions next high s h = inl (s, h, refl, refl)

pub tables-same : (t : Tables) → TablesMove t t
tables-same t = record {
  next = omega arith;
  nodes = turns-ids t.nodes;
  services = turns-ids t.services;
  tasks = turns-by (becomes-same TaskMoves task-same t.tasks);
  networks = networks-stay t.networks;
  sessions = sessions-same t.sessions t.next_id t.next_id;
  opens = rows-stay session_node t.next_id t.next_id t.sessions (omega arith);
  ids = λ i. inl (omega arith);
}

sessions-then : (a b c : List NodeSession) (next mid high : ℕ) → next ≤ mid → mid ≤ high →
    ((s : NodeSession) → Has b s → ComesFrom a next mid s) → ((s : NodeSession) → Has c s → ComesFrom b mid high s) →
    (s : NodeSession) → Has c s → ComesFrom a next high s
sessions-then a b c next mid high low up first second s h = by_second (second s h)
  where
    by_first : (r : NodeSession) → r.node ≡ s.node → r.session.id ≡ s.session.id → ComesFrom a next mid r →
        ComesFrom a next high s
    by_first r node id (inl q) = inl (q.0, q.1, q.2 ∙ node, q.3 ∙ id)
    by_first r node id (inr n) = inr (omega (arith, n.0, id), omega (arith, n.1, id, up))

    by_second : ComesFrom b mid high s → ComesFrom a next high s
    by_second (inl r) = by_first r.0 r.2 r.3 (first r.0 r.1)
    by_second (inr n) = inr (omega (arith, n.0, low), n.1)

pub tables-then : (t u v : Tables) → TablesMove t u → TablesMove u v → TablesMove t v
tables-then t u v h k = record {
  next = omega (arith, h.next, k.next);
  nodes = ids-then node_id t.next_id u.next_id v.next_id t.nodes u.nodes v.nodes h.next k.next h.nodes k.nodes;
  services =
      ids-then service_id t.next_id u.next_id v.next_id t.services u.services v.services h.next k.next
      h.services k.services;
  tasks =
      turns-then task_id TaskMoves IsGood task-then (λ x y m. m.id) good-moves t.next_id u.next_id v.next_id
      t.tasks u.tasks v.tasks h.next k.next h.tasks k.tasks;
  networks =
      turns-then network_id Stays IsSubnet (λ x y z h k. k ∙ h) (λ x y h. ap network_id h)
      (λ x y e is. subst IsSubnet (sym e) is) t.next_id u.next_id v.next_id t.networks u.networks v.networks
      h.next k.next h.networks k.networks;
  sessions =
      sessions-then t.sessions u.sessions v.sessions t.next_id u.next_id v.next_id h.next k.next h.sessions k.sessions;
  opens = λ rises. k.opens (h.opens rises);
  ids = λ i. comes-then t.next_id u.next_id v.next_id i _ _ _ h.next k.next (h.ids i) (k.ids i);
}

pub moves-then : (w v u : World) → Moves w v → Moves v u → Moves w u
moves-then w v u h k = record {
  tables = tables-then w.tables v.tables u.tables h.tables k.tables;
  watchers =
      ids-then watcher_id w.tables.next_id v.tables.next_id u.tables.next_id w.watchers v.watchers u.watchers
      h.tables.next k.tables.next h.watchers k.watchers;
  sent = λ rises. k.sent (h.sent rises);
  agents = λ rises. k.agents (h.agents rises);
  ids = λ i.
      comes-then w.tables.next_id v.tables.next_id u.tables.next_id i _ _ _ h.tables.next k.tables.next
      (h.ids i) (k.ids i);
}

pub orderly-moves : (w v : World) → IsOrderly w → Moves w v → IsOrderly v
orderly-moves w v is m = record {
  next = omega (arith, is.next, m.tables.next);
  nodes =
      turns-between node_id (SameId node_id) Any (λ x y h. h) _ _ _ _ is.next m.tables.next is.nodes m.tables.nodes;
  services =
      turns-between service_id (SameId service_id) Any (λ x y h. h) _ _ _ _ is.next m.tables.next
      is.services m.tables.services;
  tasks =
      turns-between task_id TaskMoves IsGood (λ x y h. h.id) _ _ _ _ is.next m.tables.next is.tasks m.tables.tasks;
  networks =
      turns-between network_id Stays IsSubnet (λ x y h. ap network_id h) _ _ _ _ is.next m.tables.next
      is.networks m.tables.networks;
  watchers =
      turns-between watcher_id (SameId watcher_id) Any (λ x y h. h) _ _ _ _ is.next m.tables.next is.watchers m.watchers;
  sessions = m.tables.opens is.sessions;
  sent = m.sent is.sent;
  agents = m.agents is.agents;
  ids = λ i.
      comes-then 0 w.tables.next_id v.tables.next_id i 0 (in_world i w) (in_world i v) (omega arith) m.tables.next
      (is.ids i) (m.ids i);
  good = λ y h.
      elim (becomes-cases TaskMoves m.tables.tasks.more w.tables.tasks v.tables.tasks m.tables.tasks.rows y h) [
        | inl r ↦ good-moves r.0 y r.2 (is.good r.0 r.1)
        | inr x ↦ m.tables.tasks.asked y x
      ];
  subnets = λ y h.
      elim (becomes-cases Stays m.tables.networks.more w.tables.networks v.tables.networks m.tables.networks.rows y h) [
        | inl r ↦ subst IsSubnet (sym r.2) (is.subnets r.0 r.1)
        | inr x ↦ m.tables.networks.asked y x
      ];
}
