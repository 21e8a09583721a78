-- Every operation is a move.
use Rattle.std.proofs.Common.{Bool, Err, List, None, Ok, Option, Some, [], arith, inl, refl, sym, true, ℕ, ◌+◌, ◌∷◌, ◌≡◌, ◌≤◌}
use Rattle.std.specs.Prelude.{false, find, is_none, not, ◌==◌}
use Rattle.swarm_model.proofs.Base.Answers.{none_of, OnDone, OnGiven, given-found, given-unless, given-unless_some, ops-keep}
use Rattle.swarm_model.proofs.Moves.EachDuty.{beside-moves, tables-moves}
use Rattle.swarm_model.proofs.Moves.Ids.{comes-next, times-becomes, times-push}
use Rattle.swarm_model.proofs.Moves.Rows.{Becomes, RisesBetween, becomes-filter, becomes-same, between-filter, between-push, rows-stay}
use Rattle.swarm_model.proofs.Moves.Tables.{move-node_at, move-service, move-where, moves-in_state, rank-most}
use Rattle.swarm_model.proofs.Moves.Worlds.{Any, ComesFrom, IsOrderly, IsSubnet, Moves, SameId, Stays, TablesMove, TaskMoves, moves-then, networks-stay, orderly-moves, sessions-same, tables-same, tables-then, task-same, turns-by, turns-ids, turns-more}
use Rattle.swarm_model.specs.Calls.Networks.{new_network, remove_network, with_network}
use Rattle.swarm_model.specs.Calls.Nodes.{is_left_behind, remove_node, tables_without_node, update_node, with_agent_if, with_node, without_node}
use Rattle.swarm_objects.specs.NewRows.{new_node, respecified_node}
use Rattle.swarm_objects.specs.Agents.NodeAgents.{new_agent}
use Rattle.swarm_model.specs.Calls.Operations.{apply_op, apply_ops}
use Rattle.swarm_model.specs.Calls.Refusals.{bad_spec, Done, conflict, network_by, node_by, service_by}
use Rattle.swarm_objects.specs.Refusals.{first_refusal}
use Rattle.swarm_model.specs.Calls.Services.{go_back, new_service, put_service, remove_service, rollback_service, update_service, with_service, without_service}
use Rattle.swarm_model.specs.Laws.Rises.{session_id}
use Rattle.swarm_objects.specs.NewRows.{respecified}
use Rattle.swarm_objects.proofs.RowLemmas.{Has-filter_cases}
use Rattle.swarm_objects.specs.Changes.{in_state, with_tables}
use Rattle.swarm_objects.specs.Rows.{Has, agent_node, drop_row, network_id, node_id, sent_node, service_id, session_node}
use Rattle.swarm_objects.specs.Rules.Networks.{subnet_breaks, subnet_rules}
use Rattle.swarm_objects.specs.World.{Tables, World}
use Rattle.swarm_objects.specs.declared.calls.Op.{Op}
use Rattle.swarm_objects.specs.declared.calls.Op.TheVariants as op
use Rattle.swarm_objects.specs.declared.ids.Kind.TheVariants as kind
use Rattle.swarm_objects.specs.declared.networks.Network.{Network}
use Rattle.swarm_objects.specs.declared.nodes.Node.{Node}
use Rattle.swarm_objects.specs.declared.replies.Wanted.TheVariants as wanted_by
use Rattle.swarm_objects.specs.declared.replies.Refusal.{Refusal}
use Rattle.swarm_objects.specs.declared.rules.SpecRule.{SpecRule}
use Rattle.swarm_objects.specs.declared.services.Service.{Service}
use Rattle.swarm_objects.specs.declared.services.ServiceSpec.{ServiceSpec}
use Rattle.swarm_objects.specs.declared.sessions.NodeSession.{NodeSession}
use Rattle.swarm_objects.specs.declared.settings.Settings.{Settings}
use Rattle.swarm_objects.specs.declared.tasks.TaskState.TheVariants as state
use Rattle.swarm_objects.specs.declared.agents.NodeAgent.{NodeAgent}

dropped : {X : Type 0} (key : X → ℕ) (id : ℕ) (rows : List X) → Becomes (SameId key) [] rows (drop_row key id rows)
dropped key id rows = becomes-filter (SameId key) (λ x. not (key x == id)) (λ x. refl) rows

-- An object comes.

-- the agent of a new node is the last
agent-comes : (b : Bool) (next node : ℕ) (agents : List NodeAgent) → 1 ≤ next → node ≡ next →
    RisesBetween agent_node 1 next agents → RisesBetween agent_node 1 (next + 1) (with_agent_if b node agents)
agent-comes true next node agents low id rises = between-push agent_node 1 next (new_agent node) agents low id rises
agent-comes false next node agents low id rises = rows-stay agent_node next (next + 1) agents (omega arith) rises

node-comes : (w : World) (n : Node) → 1 ≤ w.tables.next_id → n.id ≡ w.tables.next_id → Moves w (with_node w n)
node-comes w n low id = record {
  tables = record {
    next = omega arith;
    nodes =
        turns-more node_id (SameId node_id) Any w.tables.next_id w.tables.nodes w.tables.nodes n
        (becomes-same (SameId node_id) (λ x. refl) w.tables.nodes) id tt;
    services = turns-ids w.tables.services;
    tasks = turns-by (becomes-same TaskMoves task-same w.tables.tasks);
    networks = networks-stay w.tables.networks;
    sessions = sessions-same w.tables.sessions w.tables.next_id (w.tables.next_id + 1);
    opens = rows-stay session_node w.tables.next_id (w.tables.next_id + 1) w.tables.sessions (omega arith);
    ids = λ i. comes-next w.tables.next_id i n.id _ _ id (omega (arith, times-push node_id i w.tables.nodes n));
  };
  watchers = turns-ids w.watchers;
  sent = rows-stay sent_node w.tables.next_id (w.tables.next_id + 1) w.sent (omega arith);
  agents = λ rises. agent-comes (not n.remote) w.tables.next_id n.id w.agents low id rises;
  ids = λ i. comes-next w.tables.next_id i n.id _ _ id (omega (arith, times-push node_id i w.tables.nodes n));
}

service-comes : (t : Tables) (s : Service) → s.id ≡ t.next_id → TablesMove t (with_service t s)
service-comes t s id = record {
  next = omega arith;
  nodes = turns-ids t.nodes;
  services =
      turns-more service_id (SameId service_id) Any t.next_id t.services t.services s
      (becomes-same (SameId service_id) (λ x. refl) t.services) id tt;
  tasks = turns-by (becomes-same TaskMoves task-same t.tasks);
  networks = networks-stay t.networks;
  sessions = sessions-same t.sessions t.next_id (t.next_id + 1);
  opens = rows-stay session_node t.next_id (t.next_id + 1) t.sessions (omega arith);
  ids = λ i. comes-next t.next_id i s.id _ _ id (omega (arith, times-push service_id i t.services s));
}

network-comes : (t : Tables) (n : Network) → n.id ≡ t.next_id → IsSubnet n → TablesMove t (with_network t n)
network-comes t n id subnet = record {
  next = omega arith;
  nodes = turns-ids t.nodes;
  services = turns-ids t.services;
  tasks = turns-by (becomes-same TaskMoves task-same t.tasks);
  networks =
      turns-more network_id Stays IsSubnet t.next_id t.networks t.networks n
      (becomes-same Stays (λ x. refl) t.networks) id subnet;
  sessions = sessions-same t.sessions t.next_id (t.next_id + 1);
  opens = rows-stay session_node t.next_id (t.next_id + 1) t.sessions (omega arith);
  ids = λ i. comes-next t.next_id i n.id _ _ id (omega (arith, times-push network_id i t.networks n));
}

-- a subnet that isn't refused breaks no rule
subnet-is : (n : Network) (rest : List (Option Refusal)) →
    first_refusal (bad_spec (find (subnet_breaks n.base n.length) subnet_rules) ∷ rest) ≡ None → IsSubnet n
subnet-is n rest e =
    go (find (subnet_breaks n.base n.length) subnet_rules)
    (none_of (bad_spec (find (subnet_breaks n.base n.length) subnet_rules)) rest e).0
  where
    go : (o : Option SpecRule) → bad_spec o ≡ None → is_none o ≡ true
    go None k = refl
    go (Some r) k = absurd cc

-- An object goes.

sessions-left : (node : ℕ) (sessions : List NodeSession) (next high : ℕ) (s : NodeSession) →
    Has (drop_row session_node node sessions) s → ComesFrom sessions next high s
sessions-left node sessions next high s h =
    inl (s, (Has-filter_cases (λ r. not (session_node r == node)) sessions s h).0, refl, refl)

node-goes : (t : Tables) (id : ℕ) →
    TablesMove t (record t { nodes = drop_row node_id id t.nodes; sessions = drop_row session_node id t.sessions })
node-goes t id = record {
  next = omega arith;
  nodes = turns-by (dropped node_id id t.nodes);
  services = turns-ids t.services;
  tasks = turns-by (becomes-same TaskMoves task-same t.tasks);
  networks = networks-stay t.networks;
  sessions = sessions-left id t.sessions t.next_id t.next_id;
  opens = between-filter session_node 1 t.next_id (λ s. not (session_node s == id)) t.sessions;
  ids = λ i.
      inl (omega (
        arith,
        times-becomes node_id (SameId node_id) (λ x y e. e) i t.nodes _ (dropped node_id id t.nodes),
        times-becomes session_id (SameId session_id) (λ x y e. e) i t.sessions _
            (becomes-filter (SameId session_id) (λ s. not (session_node s == id)) (λ s. refl) t.sessions),
      ));
}

without-node : (version : ℕ) (t : Tables) (id : ℕ) → TablesMove t (tables_without_node version t id)
without-node version t id =
    let left = record t { nodes = drop_row node_id id t.nodes; sessions = drop_row session_node id t.sessions } in
    tables-then t left _ (node-goes t id)
    (move-where left (is_left_behind id) (in_state version t.clock state.Orphaned)
    (λ x h e. moves-in_state version t.clock state.Orphaned x (rank-most x.state)))

-- what was sent to it, and its agent, go with it
node-left : (version : ℕ) (w : World) (id : ℕ) → Moves w (without_node version w id)
node-left version w id =
    beside-moves w (without_node version w id) (without-node version w.tables id) refl
    (between-filter sent_node 1 w.tables.next_id (λ s. not (sent_node s == id)) w.sent)
    (between-filter agent_node 1 w.tables.next_id (λ a. not (agent_node a == id)) w.agents)

service-goes : (t : Tables) (id : ℕ) → TablesMove t (without_service t id)
service-goes t id = record {
  next = omega arith;
  nodes = turns-ids t.nodes;
  services = turns-by (dropped service_id id t.services);
  tasks = turns-by (becomes-same TaskMoves task-same t.tasks);
  networks = networks-stay t.networks;
  sessions = sessions-same t.sessions t.next_id t.next_id;
  opens = rows-stay session_node t.next_id t.next_id t.sessions (omega arith);
  ids = λ i.
      inl (omega (arith, times-becomes service_id (SameId service_id) (λ x y e. e) i t.services _ (dropped service_id id t.services)));
}

network-goes : (t : Tables) (id : ℕ) → TablesMove t (record t { networks = drop_row network_id id t.networks })
network-goes t id = record {
  next = omega arith;
  nodes = turns-ids t.nodes;
  services = turns-ids t.services;
  tasks = turns-by (becomes-same TaskMoves task-same t.tasks);
  networks = turns-by (becomes-filter Stays (λ n. not (network_id n == id)) (λ n. refl) t.networks);
  sessions = sessions-same t.sessions t.next_id t.next_id;
  opens = rows-stay session_node t.next_id t.next_id t.sessions (omega arith);
  ids = λ i.
      inl (omega (arith, times-becomes network_id (SameId network_id) (λ x y e. e) i t.networks _ (dropped network_id id t.networks)));
}

settings-move : (t : Tables) (settings : Settings) → TablesMove t (record t { settings = settings })
settings-move t settings = record {
  next = omega arith;
  nodes = turns-ids t.nodes;
  services = turns-ids t.services;
  tasks = turns-by (becomes-same TaskMoves task-same t.tasks);
  networks = networks-stay t.networks;
  sessions = sessions-same t.sessions t.next_id t.next_id;
  opens = rows-stay session_node t.next_id t.next_id t.sessions (omega arith);
  ids = λ i. inl (omega arith);
}

-- Operations.

with-tables : (w : World) (t : Tables) → TablesMove w.tables t → Moves w (with_tables w t)
with-tables w t tables = tables-moves w (with_tables w t) tables refl refl refl

service-put : (w : World) (s : Service) → Moves w (put_service w s)
service-put w s = with-tables w _ (move-service w.tables s.id (λ old. s) (λ v e. sym e))

goes-back : (version : ℕ) (w : World) (s : Service) (spec : Option ServiceSpec) →
    OnDone (Moves w) (go_back version w s spec)
goes-back version w s None = tt
goes-back version w s (Some spec) = service-put w (respecified version true spec s)

pub op-moves : (version : ℕ) (w : World) (o : Op) → IsOrderly w → OnDone (Moves w) (apply_op version w o)
op-moves version w (op.CreateNode name draft) is =
    given-unless (λ (d : World × ℕ). Moves w d.0) _ _
    (λ e. node-comes w (new_node version w.tables.next_id name draft) is.next refl)
op-moves version w (op.UpdateNode name asked labels r a) is =
    given-found (λ (d : World × ℕ). Moves w d.0) kind.Node (wanted_by.Name name) (node_by w.tables name)
    (λ n. update_node w asked n (respecified_node version labels r a n))
    (λ (n : Node) e. given-unless (λ (d : World × ℕ). Moves w d.0) _ _
    (λ ok. with-tables w _ (move-node_at w.tables n.id (λ m. respecified_node version labels r a n) (λ m same. sym same))))
op-moves version w (op.RemoveNode name force) is =
    given-found (λ (d : World × ℕ). Moves w d.0) kind.Node (wanted_by.Name name) (node_by w.tables name)
    (remove_node version w force)
    (λ (n : Node) e. given-unless (λ (d : World × ℕ). Moves w d.0) _ _
    (λ ok. node-left version w n.id))
op-moves version w (op.CreateService name d) is =
    given-unless (λ (d : World × ℕ). Moves w d.0) _ _
    (λ e. with-tables w _ (service-comes w.tables (new_service version w.tables name d) refl))
op-moves version w (op.UpdateService name asked d) is =
    given-found (λ (d : World × ℕ). Moves w d.0) kind.Service (wanted_by.Name name) (service_by w.tables name)
    (update_service version w asked d)
    (λ (s : Service) e. given-unless (λ (d : World × ℕ). Moves w d.0) _ _ (λ ok. service-put w _))
op-moves version w (op.RemoveService name) is =
    given-found (λ (d : World × ℕ). Moves w d.0) kind.Service (wanted_by.Name name) (service_by w.tables name)
    (remove_service w) (λ (s : Service) e. with-tables w _ (service-goes w.tables s.id))
op-moves version w (op.RollbackService name asked) is =
    given-found (λ (d : World × ℕ). Moves w d.0) kind.Service (wanted_by.Name name) (service_by w.tables name)
    (rollback_service version w asked)
    (λ (s : Service) e. given-unless_some (λ (d : World × ℕ). Moves w d.0) (conflict asked s.version) _
    (λ ok. goes-back version w s s.previous))
op-moves version w (op.CreateNetwork name base bits) is =
    given-unless (λ (d : World × ℕ). Moves w d.0) _ _
    (λ e. with-tables w _ (network-comes w.tables (new_network version w.tables.next_id name base bits) refl
    (subnet-is (new_network version w.tables.next_id name base bits) _ e)))
op-moves version w (op.RemoveNetwork name) is =
    given-found (λ (d : World × ℕ). Moves w d.0) kind.Network (wanted_by.Name name) (network_by w.tables name)
    (remove_network w)
    (λ (n : Network) e. given-unless (λ (d : World × ℕ). Moves w d.0) _ _
    (λ ok. with-tables w _ (network-goes w.tables n.id)))
op-moves version w (op.SetCluster settings) is =
    given-unless (λ (d : World × ℕ). Moves w d.0) _ _ (λ e. tables-moves w _ (settings-move w.tables settings) refl refl refl)

-- all of a transaction's, one after the other
after-moves : (w v : World) (done : Done) → Moves w v → OnDone (Moves v) done → OnDone (Moves w) done
after-moves w v (Ok d) first second = moves-then w v d.0 first second
after-moves w v (Err r) first second = tt

pub ops-moves : (version : ℕ) (w : World) (ops : List Op) → IsOrderly w →
    OnGiven (λ (d : World × List ℕ). Moves w d.0) (apply_ops version ops w [])
ops-moves version w ops is =
    ops-keep (Moves w) version
    (λ v o first. after-moves w v (apply_op version v o) first (op-moves version v o (orderly-moves w v is first))) ops w []
    (tables-moves w w (tables-same w.tables) refl refl refl)
