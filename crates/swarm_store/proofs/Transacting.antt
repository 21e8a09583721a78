-- Operations one after the other, and what a transaction makes of every world that a store stands for.
use Rattle.std.proofs.Common.{◌≡◌, ℕ, ◌+◌, ◌<◌, ◌≤◌, Bool, true, false, cond, ◌⊎◌, inl, inr, List, [], ◌∷◌, ◌++◌, length, drop, get_or, Option, Some, None, Result, Ok, Err, OnOk, OnErr, refl, sym, ap, ◌∙◌, subst, arith}
use Rattle.std.specs.Prelude.{filter, map, nat_lt, not, ◌==◌}
use Rattle.std.proofs.lemmas.Bool.Decides.{nat_tests}
use Rattle.std.proofs.lemmas.List.{length-append, length-map}
use Rattle.swarm_model.proofs.Base.Answers.{OnDone, given-found, given-is, given-unless, given-unless_some}
use Rattle.swarm_model.specs.Calls.{txn, txn_answer}
use Rattle.swarm_model.specs.Calls.Networks.{new_network, remove_network}
use Rattle.swarm_objects.specs.NewRows.{new_node, respecified_node}
use Rattle.swarm_model.specs.Calls.Nodes.{remove_node, tables_without_node, update_node}
use Rattle.swarm_model.specs.Calls.Operations.{apply_op, apply_ops}
use Rattle.swarm_model.specs.Calls.Refusals.{Done, conflict, network_by, node_by, service_by}
use Rattle.swarm_model.specs.Calls.Services.{filled, go_back, new_service, remove_service, rollback_service, update_service}
use Rattle.swarm_objects.specs.NewRows.{respecified}
use Rattle.swarm_model.specs.Changed.{changes_between}
use Rattle.swarm_objects.proofs.RowLemmas.{IsBelow-map, IsBelow-more, RisesFrom-filter, RisesFrom-map, RisesFrom-push, drop_next}
use Rattle.swarm_objects.specs.Limits.{most_ops}
use Rattle.swarm_objects.specs.Rows.{IsBelow, RisesFrom, network_id, node_id, put_row, service_id, session_node, task_id}
use Rattle.swarm_objects.specs.World.{Tables, World}
use Rattle.swarm_objects.specs.declared.calls.Op.{Op}
use Rattle.swarm_objects.specs.declared.calls.Op.TheVariants as op
use Rattle.swarm_objects.specs.declared.ids.Kind.TheVariants as kind
use Rattle.swarm_objects.specs.declared.networks.Network.{Network}
use Rattle.swarm_objects.specs.declared.nodes.Node.{Node}
use Rattle.swarm_objects.specs.declared.replies.Refusal.{Refusal}
use Rattle.swarm_objects.specs.declared.replies.Refusal.TheVariants as refusal
use Rattle.swarm_objects.specs.declared.replies.Wanted.TheVariants as wanted_by
use Rattle.swarm_objects.specs.declared.services.Service.{Service}
use Rattle.swarm_objects.specs.declared.services.ServiceSpec.{ServiceSpec}
use Rattle.swarm_objects.specs.declared.watches.Event.{Event}
use Rattle.swarm_model.proofs.Base.Updates.{next-done}
use Rattle.swarm_objects.specs.Effects.{world_with}
use Rattle.swarm_store.proofs.Beside.{same-ops}
use Rattle.swarm_store.proofs.Orphans.{orphaned, orphaned-id}
use Rattle.swarm_store.proofs.Standing.{below-filter, below-push, below-put, few-left, rises-put, same-count}
use Rattle.swarm_store.specs.Inside.Done.{made, made_all}
use Rattle.swarm_store.specs.Inside.Ops.{Reached}
use Rattle.swarm_store.specs.Inside.State.{Stands}
use Rattle.swarm_store.specs.Stored.{StandsFor, Stored, Transacts, row_count, without_sessions}

-- Rows stand in order after each operation.

abbrev InRow : {X : Type 0} → (X → ℕ) → ℕ → List X → Type 0
InRow key next rows = RisesFrom key 0 rows × IsBelow key next rows

stand : (u : Tables) → InRow node_id u.next_id u.nodes → InRow service_id u.next_id u.services → InRow task_id u.next_id u.tasks →
    InRow network_id u.next_id u.networks → RisesFrom session_node 0 u.sessions → 0 < u.next_id → row_count u < u.next_id →
    Stands u
stand u n s x k sessions ids few = record {
  ordered = record { nodes = n.0; services = s.0; tasks = x.0; networks = k.0; sessions = sessions };
  below = record { nodes = n.1; services = s.1; tasks = x.1; networks = k.1 };
  ids = ids;
  few = few;
}

of-nodes : (t : Tables) → Stands t → InRow node_id t.next_id t.nodes
of-nodes t is = (is.ordered.nodes, is.below.nodes)

of-services : (t : Tables) → Stands t → InRow service_id t.next_id t.services
of-services t is = (is.ordered.services, is.below.services)

of-tasks : (t : Tables) → Stands t → InRow task_id t.next_id t.tasks
of-tasks t is = (is.ordered.tasks, is.below.tasks)

of-networks : (t : Tables) → Stands t → InRow network_id t.next_id t.networks
of-networks t is = (is.ordered.networks, is.below.networks)

more-in : {X : Type 0} (key : X → ℕ) (n : ℕ) (rows : List X) → InRow key n rows → InRow key (n + 1) rows
more-in key n rows is = (is.0, IsBelow-more key n (n + 1) rows (omega arith) is.1)

push-in : {X : Type 0} (key : X → ℕ) (n : ℕ) (rows : List X) (x : X) → key x ≡ n → 0 < n → InRow key n rows →
    InRow key (n + 1) (rows ++ x ∷ [])
push-in key n rows x e lt is = (
  RisesFrom-push key 0 rows x is.0 (subst (λ k. IsBelow key k rows) (sym e) is.1) (omega (arith, e, lt)),
  below-push key n rows x is.1 e,
)

filter-in : {X : Type 0} (key : X → ℕ) (n : ℕ) (p : X → Bool) (rows : List X) → InRow key n rows → InRow key n (filter p rows)
filter-in key n p rows is = (RisesFrom-filter key 0 p rows is.0, below-filter key n p rows is.1)

put-in : {X : Type 0} (key : X → ℕ) (n : ℕ) (new : X) (rows : List X) → InRow key n rows → InRow key n (put_row key new rows)
put-in key n new rows is = (rises-put key 0 new rows is.0, below-put key n new rows is.1)

map-in : {X : Type 0} (key : X → ℕ) (n : ℕ) (f : X → X) (rows : List X) → ((x : X) → key (f x) ≡ key x) → InRow key n rows →
    InRow key n (map f rows)
map-in key n f rows same is = (RisesFrom-map key 0 f rows same is.0, IsBelow-map key n f rows same is.1)

abbrev Standing : World → Type 0
Standing w = Stands w.tables

abbrev OpStands : World × ℕ → Type 0
OpStands d = Standing d.0

service-puts : (t : Tables) (s : Service) → Stands t → Stands (record t { services = put_row service_id s t.services })
service-puts t s is =
    stand (record t { services = put_row service_id s t.services }) (of-nodes t is)
    (put-in service_id t.next_id s t.services (of-services t is)) (of-tasks t is) (of-networks t is) is.ordered.sessions is.ids
    (let was = is.few in omega (arith, was, same-count service_id s t.services))

back-stands : (version : ℕ) (w : World) (s : Service) (spec : Option ServiceSpec) → Standing w →
    OnDone Standing (go_back version w s spec)
back-stands version w s None is = tt
back-stands version w s (Some spec) is = service-puts w.tables (respecified version true spec s) is

op-stands : (version : ℕ) (w : World) (o : Op) → Standing w → OnDone Standing (apply_op version w o)
op-stands version w (op.CreateNode name draft) is =
    given-unless OpStands _ _
    (λ e. stand _
    (push-in node_id w.tables.next_id w.tables.nodes (new_node version w.tables.next_id name draft) refl is.ids (of-nodes w.tables is))
    (more-in service_id w.tables.next_id w.tables.services (of-services w.tables is))
    (more-in task_id w.tables.next_id w.tables.tasks (of-tasks w.tables is))
    (more-in network_id w.tables.next_id w.tables.networks (of-networks w.tables is)) is.ordered.sessions (omega arith)
    (let was = is.few in omega (arith, was, length-append w.tables.nodes (new_node version w.tables.next_id name draft ∷ []))))
op-stands version w (op.UpdateNode name asked labels r a) is =
    given-found OpStands kind.Node (wanted_by.Name name) (node_by w.tables name)
    (λ n. update_node w asked n (respecified_node version labels r a n))
    (λ (n : Node) e. given-unless OpStands _ _
    (λ ok. stand _ (put-in node_id w.tables.next_id (respecified_node version labels r a n) w.tables.nodes (of-nodes w.tables is))
    (of-services w.tables is) (of-tasks w.tables is) (of-networks w.tables is) is.ordered.sessions is.ids
    (let was = is.few in omega (arith, was, same-count node_id (respecified_node version labels r a n) w.tables.nodes))))
op-stands version w (op.RemoveNode name force) is =
    given-found OpStands kind.Node (wanted_by.Name name) (node_by w.tables name) (remove_node version w force)
    (λ (n : Node) e. given-unless OpStands _ _
    (λ ok. stand (tables_without_node version w.tables n.id)
    (filter-in node_id w.tables.next_id _ w.tables.nodes (of-nodes w.tables is)) (of-services w.tables is)
    (map-in task_id w.tables.next_id (orphaned version w.tables.clock n.id) w.tables.tasks
    (orphaned-id version w.tables.clock n.id) (of-tasks w.tables is))
    (of-networks w.tables is) (RisesFrom-filter session_node 0 _ w.tables.sessions is.ordered.sessions) is.ids
    (let was = is.few in omega (arith, was, few-left (λ (row : Node). not (node_id row == n.id)) w.tables.nodes, length-map w.tables.tasks (orphaned version w.tables.clock n.id)))))
op-stands version w (op.CreateService name d) is =
    given-unless OpStands _ _
    (λ e. stand _ (more-in node_id w.tables.next_id w.tables.nodes (of-nodes w.tables is))
    (push-in service_id w.tables.next_id w.tables.services (new_service version w.tables name d) refl is.ids (of-services w.tables is))
    (more-in task_id w.tables.next_id w.tables.tasks (of-tasks w.tables is))
    (more-in network_id w.tables.next_id w.tables.networks (of-networks w.tables is)) is.ordered.sessions (omega arith)
    (let was = is.few in omega (arith, was, length-append w.tables.services (new_service version w.tables name d ∷ []))))
op-stands version w (op.UpdateService name asked d) is =
    given-found OpStands kind.Service (wanted_by.Name name) (service_by w.tables name) (update_service version w asked d)
    (λ (s : Service) e. given-unless OpStands _ _
    (λ ok. service-puts w.tables (respecified version false (filled w.tables d) s) is))
op-stands version w (op.RemoveService name) is =
    given-found OpStands kind.Service (wanted_by.Name name) (service_by w.tables name) (remove_service w)
    (λ (s : Service) e.
    stand _ (of-nodes w.tables is) (filter-in service_id w.tables.next_id _ w.tables.services (of-services w.tables is))
    (of-tasks w.tables is) (of-networks w.tables is) is.ordered.sessions is.ids
    (let was = is.few in omega (arith, was, few-left (λ (row : Service). not (service_id row == s.id)) w.tables.services)))
op-stands version w (op.RollbackService name asked) is =
    given-found OpStands kind.Service (wanted_by.Name name) (service_by w.tables name) (rollback_service version w asked)
    (λ (s : Service) e. given-unless_some OpStands (conflict asked s.version) _ (λ ok. back-stands version w s s.previous is))
op-stands version w (op.CreateNetwork name base bits) is =
    given-unless OpStands _ _
    (λ e. stand _ (more-in node_id w.tables.next_id w.tables.nodes (of-nodes w.tables is))
    (more-in service_id w.tables.next_id w.tables.services (of-services w.tables is))
    (more-in task_id w.tables.next_id w.tables.tasks (of-tasks w.tables is))
    (push-in network_id w.tables.next_id w.tables.networks (new_network version w.tables.next_id name base bits) refl is.ids
    (of-networks w.tables is)) is.ordered.sessions (omega arith)
    (let was = is.few in omega (arith, was, length-append w.tables.networks (new_network version w.tables.next_id name base bits ∷ []))))
op-stands version w (op.RemoveNetwork name) is =
    given-found OpStands kind.Network (wanted_by.Name name) (network_by w.tables name) (remove_network w)
    (λ (n : Network) e. given-unless OpStands _ _
    (λ ok. stand _ (of-nodes w.tables is) (of-services w.tables is) (of-tasks w.tables is)
    (filter-in network_id w.tables.next_id _ w.tables.networks (of-networks w.tables is)) is.ordered.sessions is.ids
    (let was = is.few in omega (arith, was, few-left (λ (row : Network). not (network_id row == n.id)) w.tables.networks))))
op-stands version w (op.SetCluster settings) is =
    given-unless OpStands _ _
    (λ e. stand _ (of-nodes w.tables is) (of-services w.tables is) (of-tasks w.tables is) (of-networks w.tables is)
    is.ordered.sessions is.ids is.few)

-- One operation.

pub record Gave (d : Done) (t : Tables) (id : ℕ) : Type 0 where
  pub after : World
  pub done : d ≡ Ok (after, id)
  pub same : without_sessions after.tables ≡ t

inv-made : (d : Done) (t : Tables) (id : ℕ) → made d ≡ Ok (t, id) → Gave d t id
inv-made (Ok e) t id is =
    let both : (without_sessions e.0.tables, e.1) ≡ (t, id) = cc in
    record {
      after = e.0;
      done = ap (λ i. Ok (e.0, i)) (ap (λ (p : Tables × ℕ). p.1) both);
      same = ap (λ (p : Tables × ℕ). p.0) both;
    }
inv-made (Err r) t id is = absurd cc

inv-refused : (d : Done) (r : Refusal) → made d ≡ Err r → d ≡ Err r
inv-refused (Ok e) r is = absurd cc
inv-refused (Err q) r is = let same : q ≡ r = cc in ap (λ x. Err x) same

pub next-stands : (version : ℕ) (t u : Tables) (o : Op) (id : ℕ) → Stands t →
    made (apply_op version (world_with t) o) ≡ Ok (u, id) → Stands u
next-stands version t u o id is done =
    let gave = inv-made (apply_op version (world_with t) o) u id done in
    let stands =
    given-is OpStands (apply_op version (world_with t) o) (gave.after, id) (op-stands version (world_with t) o is) gave.done in
    subst Stands gave.same
    (stand (without_sessions gave.after.tables) (of-nodes gave.after.tables stands) (of-services gave.after.tables stands)
    (of-tasks gave.after.tables stands) (of-networks gave.after.tables stands) tt stands.ids stands.few)

-- All of them.

pub ops-next : (version : ℕ) (ops : List Op) (i : ℕ) (o : Op) (t u : Tables) (ids all : List ℕ) (id : ℕ) → i < length ops →
    o ≡ get_or ops i o → made (apply_op version (world_with t) o) ≡ Ok (u, id) → all ≡ ids ++ id ∷ [] →
    made_all (apply_ops version (drop i ops) (world_with t) ids) ≡ made_all (apply_ops version (drop (i + 1) ops) (world_with u) all)
ops-next version ops i o t u ids all id lt is done more =
    let gave = inv-made (apply_op version (world_with t) o) u id done in
    ap made_all (next-done version ops i o (world_with t) gave.after ids all id lt is gave.done more)
    ∙ same-ops version (drop (i + 1) ops) gave.after (world_with u) all (ap without_sessions gave.same)

pub ops-refused : (version : ℕ) (ops : List Op) (i : ℕ) (o : Op) (t : Tables) (ids : List ℕ) (r : Refusal) → i < length ops →
    o ≡ get_or ops i o → made (apply_op version (world_with t) o) ≡ Err r →
    made_all (apply_ops version (drop i ops) (world_with t) ids) ≡ Err r
ops-refused version ops i o t ids r lt is refused =
    ap (λ xs. made_all (apply_ops version xs (world_with t) ids)) (drop_next ops i o lt is)
    ∙ ap (λ (d : Done). made_all (elim d [
      | Ok one ↦ apply_ops version (drop (i + 1) ops) one.0 (ids ++ one.1 ∷ [])
      | Err q ↦ Err q
    ])) (inv-refused (apply_op version (world_with t) o) r refused)

-- every way of being refused
pub either-refused : (version : ℕ) (ops : List Op) (i : ℕ) (o : Op) (t : Tables) (ids : List ℕ) (r : Refusal)
    (all : Result (Tables × List ℕ) Refusal) → i < length ops → o ≡ get_or ops i o →
    (r ≡ refusal.NoMemory) ⊎ (made (apply_op version (world_with t) o) ≡ Err r) →
    all ≡ made_all (apply_ops version (drop i ops) (world_with t) ids) → (r ≡ refusal.NoMemory) ⊎ (all ≡ Err r)
either-refused version ops i o t ids r all lt is (inl e) so = inl e
either-refused version ops i o t ids r all lt is (inr e) so = inr (so ∙ ops-refused version ops i o t ids r lt is e)

-- Every world that the store stands for.

pub record GaveAll (d : Result (World × List ℕ) Refusal) (t : Tables) (ids : List ℕ) : Type 0 where
  pub after : World
  pub done : d ≡ Ok (after, ids)
  pub same : without_sessions after.tables ≡ t

inv-made_all : (d : Result (World × List ℕ) Refusal) (t : Tables) (ids : List ℕ) → made_all d ≡ Ok (t, ids) → GaveAll d t ids
inv-made_all (Ok e) t ids is =
    let both : (without_sessions e.0.tables, e.1) ≡ (t, ids) = cc in
    record {
      after = e.0;
      done = ap (λ i. Ok (e.0, i)) (ap (λ (p : Tables × List ℕ). p.1) both);
      same = ap (λ (p : Tables × List ℕ). p.0) both;
    }
inv-made_all (Err r) t ids is = absurd cc

inv-refused_all : (d : Result (World × List ℕ) Refusal) (r : Refusal) → made_all d ≡ Err r → d ≡ Err r
inv-refused_all (Ok e) r is = absurd cc
inv-refused_all (Err q) r is = let same : q ≡ r = cc in ap (λ x. Err x) same

txn-is : (version : ℕ) (w : World) (ops : List Op) (d : Result (World × List ℕ) Refusal) → nat_lt most_ops (length ops) ≡ false →
    apply_ops version ops w [] ≡ d → txn version w ops ≡ txn_answer d
txn-is version w ops d few is =
    ap (λ b. cond b (Err (refusal.TooManyOps (length ops))) (txn_answer (apply_ops version ops w []))) few ∙ ap txn_answer is

pub too-many : (version : ℕ) (w : World) (ops : List Op) (before : Stored) → nat_lt most_ops (length ops) ≡ true →
    Transacts version ops w before (Err (refusal.TooManyOps (length ops))) before
too-many version w ops before many = (
  inr (ap (λ b. cond b (Err (refusal.TooManyOps (length ops))) (txn_answer (apply_ops version ops w []))) many),
  refl,
)

pub transacted-any : (version : ℕ) (ops : List Op) (w : World) (before : Stored) (t u : Tables) (old events : List Event)
    (r : Result (List ℕ) Refusal) → record { tables = t; changes = old } ≡ before → StandsFor before w →
    nat_lt most_ops (length ops) ≡ false → Reached (made_all (apply_ops version ops (world_with t) [])) r u →
    OnOk r (events ≡ changes_between version t u) → OnErr r ((u ≡ t) × (events ≡ old)) →
    Transacts version ops w before r (record { tables = u; changes = events })
transacted-any version ops w before t u old events (Ok ids) view stands few done ok err =
    let same : t ≡ without_sessions w.tables = ap (λ (s : Stored). s.tables) view ∙ stands in
    let here = same-ops version ops w (world_with t) [] (sym (ap without_sessions same)) ∙ done in
    let gave = inv-made_all (apply_ops version ops w []) u ids here in (
      gave.after,
      txn-is version w ops (Ok (gave.after, ids)) few gave.done,
      sym gave.same,
      ok ∙ ap (λ v. changes_between version v u) same
          ∙ ap (λ v. changes_between version (without_sessions w.tables) v) (sym gave.same),
    )
transacted-any version ops w before t u old events (Err r) view stands few done ok err = (
  why done,
  ap (λ v. record { tables = v; changes = events }) err.0
      ∙ ap (λ es. record { tables = t; changes = es }) err.1 ∙ view,
)
  where
    why : (r ≡ refusal.NoMemory) ⊎ (made_all (apply_ops version ops (world_with t) []) ≡ Err r) →
        (r ≡ refusal.NoMemory) ⊎ (txn version w ops ≡ Err r)
    why (inl e) = inl e
    why (inr e) =
        let same : t ≡ without_sessions w.tables = ap (λ (s : Stored). s.tables) view ∙ stands in
        inr (txn-is version w ops (Err r) few
        (inv-refused_all (apply_ops version ops w []) r
        (same-ops version ops w (world_with t) [] (sym (ap without_sessions same)) ∙ e)))

pub few-ops : (most n : ℕ) → n ≤ most → nat_lt most n ≡ false
few-ops most n le = grind (arith, nat_tests)

pub many-ops : (most n : ℕ) → most < n → nat_lt most n ≡ true
many-ops most n lt = grind (arith, nat_tests)
