-- The node of a task, where it is there, is READY or DOWN: what each entry makes of tasks' nodes and of nodes' states.
use Rattle.std.proofs.Common.{Bool, List, None, Option, Some, [], ap, arith, cond, false, inl, inr, not, refl, subst, sym, true, ltb, ℕ, ◌++◌, ◌<◌, ◌∙◌, ◌∷◌, ◌≡◌, ◌≤◌, ◌⊎◌}
use Rattle.std.specs.List.{list_any}
use Rattle.std.specs.Prelude.{find, is_none, map, ◌&&◌, ◌==◌, ◌||◌}
use Rattle.swarm_settle.proofs.HomeNodes.{HomeNodes}
use Rattle.swarm_settle.proofs.PlaceLists.{each-touched, place-is, touch}
use Rattle.swarm_settle.proofs.ShapeDuties.{found}
use Rattle.swarm_model.proofs.Base.IsDuty.{IsDuty, OfRow}
use Rattle.swarm_model.proofs.Laws.Timely.{each-changed, each-pushed}
use Rattle.swarm_model.proofs.Moves.Placing.{best-is}
use Rattle.swarm_model.proofs.Moves.Rows.{between-has, between-one}
use Rattle.swarm_model.proofs.Moves.Worlds.{IsOrderly}
use Rattle.swarm_objects.proofs.RowLemmas.{Has-filter_cases, Has-from_row_at}
use Rattle.swarm_objects.proofs.Tests.{any-has, first_so, never-both, or_cases, or_left, second_so, some-and-cases}
use Rattle.swarm_objects.proofs.Newest.{newest_has}
use Rattle.swarm_objects.specs.Agents.Messages.{message_for}
use Rattle.swarm_objects.specs.Changes.{change_node, change_service, change_task, change_where, in_state, noted, on_service, on_task, placed, raised_to, wanted, with_new}
use Rattle.swarm_objects.specs.Duties.{effect_by}
use Rattle.swarm_objects.specs.Loops.Agents.{after_pull, executor_at, reported_by}
use Rattle.swarm_objects.specs.Loops.Allocator.{exhausted_for, give_port, with_addresses, with_exhausted}
use Rattle.swarm_objects.specs.Loops.Dispatcher.{fallen}
use Rattle.swarm_objects.specs.Loops.Reaper.{without_task}
use Rattle.swarm_objects.specs.Loops.Restart.{by_policy, closed_by, next_task, raised, restarted, shut}
use Rattle.swarm_objects.specs.Loops.Scheduler.{explained}
use Rattle.swarm_objects.specs.Loops.Update.{by_order, fail_run, item_of, live_of_place, may_roll_back, replace_place, replaced_in}
use Rattle.swarm_objects.specs.Nodes.BestNode.{best_node}
use Rattle.swarm_objects.specs.Nodes.Filters.{admits, passes, refused_by, takes_tasks}
use Rattle.swarm_objects.specs.Nodes.Sessions.{ready_node}
use Rattle.swarm_objects.specs.Nodes.Words.{is_down, is_ready}
use Rattle.swarm_objects.specs.Rows.{Has, change_row, is_some_and, node_id, on_row, row_at, service_id, task_id}
use Rattle.swarm_objects.specs.Services.Ports.{free_port}
use Rattle.swarm_objects.specs.Services.Words.{is_live_dirty}
use Rattle.swarm_objects.specs.Tasks.New.{bound_node, goal_of, new_task}
use Rattle.swarm_objects.specs.Tasks.Places.{closes_dirty, has_live, has_other, is_dirty_place, is_in_place, newest, place_at, place_tasks, tasks_of_place}
use Rattle.swarm_objects.specs.Tasks.Policy.{no_restart}
use Rattle.swarm_objects.specs.Values.Ranks.{rank}
use Rattle.swarm_objects.specs.World.{Tables, World}
use Rattle.swarm_objects.specs.declared.agents.Executor.{Executor}
use Rattle.swarm_objects.specs.declared.duties.Duty.TheVariants as duty
use Rattle.swarm_objects.specs.declared.duties.Duty.{Duty}
use Rattle.swarm_objects.specs.declared.messages.Message.{Message}
use Rattle.swarm_objects.specs.declared.nodes.Node.{Node}
use Rattle.swarm_objects.specs.declared.services.Mode.TheVariants as mode
use Rattle.swarm_objects.specs.declared.services.Mode.{Mode}
use Rattle.swarm_objects.specs.declared.services.Service.{Service}
use Rattle.swarm_objects.specs.declared.services.ServiceSpec.{ServiceSpec}
use Rattle.swarm_objects.specs.declared.services.UpdateOrder.TheVariants as order
use Rattle.swarm_objects.specs.declared.services.UpdateOrder.{UpdateOrder}
use Rattle.swarm_objects.specs.declared.tasks.Closed.{Closed}
use Rattle.swarm_objects.specs.declared.tasks.Desired.TheVariants as desired
use Rattle.swarm_objects.specs.declared.tasks.Desired.{Desired}
use Rattle.swarm_objects.specs.declared.tasks.Note.{Note}
use Rattle.swarm_objects.specs.declared.tasks.Place.TheVariants.{On, Slot}
use Rattle.swarm_objects.specs.declared.tasks.Place.{Place}
use Rattle.swarm_objects.specs.declared.tasks.Task.{Task}
use Rattle.swarm_objects.specs.declared.tasks.TaskState.{TaskState}

abbrev pub is_known : Node → Bool
is_known n = is_ready n.state || is_down n.state

-- a node with this number that is there is known, and the number was given
pub record IsKnownNumber (t : Tables) (k : ℕ) : Type 0 where
  pub below : k < t.next_id
  pub known : (n : Node) → Has t.nodes n → n.id ≡ k → is_known n ≡ true

abbrev pub KnownNodes : Tables → Type 0
KnownNodes t = (x : Task) (k : ℕ) → Has t.tasks x → x.node ≡ Some k → IsKnownNumber t k

-- each task has the node of one that was there, or none, or a known one
abbrev pub ComesFromNode : Tables → Task → Type 0
ComesFromNode t y =
    ((x : Task) × Has t.tasks x × (y.node ≡ x.node)) ⊎ ((y.node ≡ None) ⊎
    ((k : ℕ) × (y.node ≡ Some k) × IsKnownNumber t k))

-- each node is one that was there and is known where that was, or has a new number
abbrev pub ComesFromKnown : Tables → Node → Type 0
ComesFromKnown t m =
    ((n : Node) × Has t.nodes n × (m.id ≡ n.id) × (is_known n ≡ true → is_known m ≡ true)) ⊎ (t.next_id ≤ m.id)

pub record NodeStep (t u : Tables) : Type 0 where
  pub tasks : (y : Task) → Has u.tasks y → ComesFromNode t y
  pub nodes : (m : Node) → Has u.nodes m → ComesFromKnown t m
  pub next : t.next_id ≤ u.next_id

still-known : (t u : Tables) → NodeStep t u → (k : ℕ) → IsKnownNumber t k → IsKnownNumber u k
still-known t u step k is = record {
  below = omega (arith, is.below, step.next);
  known = λ m h e. go m e (step.nodes m h);
}
  where
    go : (m : Node) → m.id ≡ k → ComesFromKnown t m → is_known m ≡ true
    go m e (inl r) = r.3 (is.known r.0 r.1 (sym r.2 ∙ e))
    go m e (inr new) = absurd (omega (arith, new, e, is.below))

pub known-step : (t u : Tables) → NodeStep t u → KnownNodes t → KnownNodes u
known-step t u step is y k h e = go (step.tasks y h)
  where
    go : ComesFromNode t y → IsKnownNumber u k
    go (inl r) = still-known t u step k (is r.0 k r.1 (sym r.2 ∙ e))
    go (inr (inl none)) = absurd (let both : None ≡ Some k = sym none ∙ e in cc)
    go (inr (inr r)) =
        let both : Some r.0 ≡ Some k = sym r.1 ∙ e in
        let same : r.0 ≡ k = cc in
        still-known t u step k (subst (IsKnownNumber t) same r.2)

-- Makers.

task-from : (t : Tables) (x : Task) → Has t.tasks x → ComesFromNode t x
task-from t x h = inl (x, h, refl)

node-from : (t : Tables) (n : Node) → Has t.nodes n → ComesFromKnown t n
node-from t n h = inl (n, h, refl, λ k. k)

pub tasks-step : (t u : Tables) → ((y : Task) → Has u.tasks y → ComesFromNode t y) → u.nodes ≡ t.nodes →
    t.next_id ≤ u.next_id → NodeStep t u
tasks-step t u tasks nodes next = record {
  tasks = tasks;
  nodes = λ m h. node-from t m (subst (λ (ns : List Node). Has ns m) nodes h);
  next = next;
}

pub same-step : (t u : Tables) → u.tasks ≡ t.tasks → u.nodes ≡ t.nodes → t.next_id ≤ u.next_id → NodeStep t u
same-step t u tasks nodes next =
    tasks-step t u (λ y h. task-from t y (subst (λ (xs : List Task). Has xs y) tasks h)) nodes next

touch-from : (t : Tables) (test : Task → Bool) (f : Task → Task) → ((x : Task) → (f x).node ≡ x.node) → (y : Task) →
    Has (map (touch test f) t.tasks) y → ComesFromNode t y
touch-from t test f same =
    each-touched (ComesFromNode t) test f t.tasks (λ x h. task-from t x h) (λ x h e. inl (x, h, same x))

touch-step : (t : Tables) (test : Task → Bool) (f : Task → Task) → ((x : Task) → (f x).node ≡ x.node) →
    NodeStep t (change_where test f t)
touch-step t test f same = tasks-step t (change_where test f t) (touch-from t test f same) refl (omega arith)

pub change-step : (t : Tables) (id : ℕ) (f : Task → Task) → ((x : Task) → (f x).node ≡ x.node) →
    NodeStep t (change_task id f t)
change-step t id f same = touch-step t (λ y. task_id y == id) f same

push-from : (t : Tables) (xs : List Task) (y : Task) → ((x : Task) → Has xs x → ComesFromNode t x) →
    ComesFromNode t y → (z : Task) → Has (xs ++ y ∷ []) z → ComesFromNode t z
push-from t xs y all one = each-pushed (ComesFromNode t) xs y all one

-- the node of a place where a task stands
place-from : (t : Tables) (x : Task) (p : Place) (y : Task) → HomeNodes t → Has t.tasks x → x.place ≡ p →
    y.node ≡ bound_node p → ComesFromNode t y
place-from t x (Slot k) y home h e node = inr (inl node)
place-from t x (On k) y home h e node = inl (x, h, node ∙ sym ((home x h).bound k e))

-- Duties.

restarted-step : (n : ℕ) (t : Tables) (x : Task) (s : Service) → HomeNodes t → Has t.tasks x →
    NodeStep t (restarted n t x s)
restarted-step n t x s home h = go (has_other t s x)
  where
    shut_from : (y : Task) → Has (shut n x.id t).tasks y → ComesFromNode t y
    shut_from = touch-from t (λ y. task_id y == x.id) (wanted n desired.Shutdown) (λ y. refl)

    closing : (cause : Closed) (o : Option Task) →
        NodeStep t (on_row (shut n x.id t) (λ y. change_task y.id (closed_by n cause) (shut n x.id t)) o)
    closing cause None = tasks-step t (shut n x.id t) shut_from refl (omega arith)
    closing cause (Some y) =
        tasks-step t (change_task y.id (closed_by n cause) (shut n x.id t))
        (each-touched (ComesFromNode t) (λ z. task_id z == y.id) (closed_by n cause) (shut n x.id t).tasks shut_from
        (λ z k e. shut_from z k)) refl (omega arith)

    by : (o : Option Closed) → NodeStep t (by_policy n (shut n x.id t) s x.place o)
    by None =
        tasks-step t (by_policy n (shut n x.id t) s x.place None)
        (push-from t (shut n x.id t).tasks (next_task n (shut n x.id t) s x.place) shut_from
        (place-from t x x.place (next_task n (shut n x.id t) s x.place) home h refl refl)) refl (omega arith)
    by (Some cause) = closing cause (newest (tasks_of_place s x.place (shut n x.id t).tasks))

    go : (b : Bool) → NodeStep t (cond b (shut n x.id t) (by_policy n (shut n x.id t) s x.place (no_restart t s x)))
    go true = tasks-step t (shut n x.id t) shut_from refl (omega arith)
    go false = by (no_restart t s x)

restart-step : (n : ℕ) (t : Tables) (id : ℕ) → HomeNodes t →
    NodeStep t (on_task t id (λ x. on_service t x.service (restarted n t x)))
restart-step n t id home = go (row_at task_id id t.tasks) refl
  where
    by : (x : Task) → Has t.tasks x → (o : Option Service) → NodeStep t (on_row t (restarted n t x) o)
    by x h None = same-step t t refl refl (omega arith)
    by x h (Some s) = restarted-step n t x s home h

    go : (o : Option Task) → row_at task_id id t.tasks ≡ o →
        NodeStep t (on_row t (λ x. on_service t x.service (restarted n t x)) o)
    go None e = same-step t t refl refl (omega arith)
    go (Some x) e = by x (Has-from_row_at task_id id t.tasks x e).0 (row_at service_id x.service t.services)

on-service : (t : Tables) (id : ℕ) (use_service : Service → Tables) → ((v : Service) → NodeStep t (use_service v)) →
    NodeStep t (on_service t id use_service)
on-service t id use_service each = go (row_at service_id id t.services)
  where
    go : (o : Option Service) → NodeStep t (on_row t use_service o)
    go None = same-step t t refl refl (omega arith)
    go (Some v) = each v

fact-service : (w : World) (id : ℕ) (use_service : Service → Tables) (Fact : Service → Type 0) → IsOrderly w →
    OfRow w.tables.services service_id id Fact →
    ((v : Service) → Has w.tables.services v → Fact v → NodeStep w.tables (use_service v)) →
    NodeStep w.tables (on_service w.tables id use_service)
fact-service w id use_service Fact orderly of each =
    subst (λ (o : Option Service). NodeStep w.tables (on_row w.tables use_service o))
    (sym (found service_id w.tables.next_id id w.tables.services Fact orderly.services of))
    (each of.row of.there of.fact)

-- a new task where the place's node is known
new-step : (n : ℕ) (t : Tables) (s : Service) (k : ℕ) (d : Desired) →
    (s.spec.mode ≡ mode.Global → IsKnownNumber t k) → NodeStep t (with_new n d t s k)
new-step n t s k d known =
    tasks-step t (with_new n d t s k)
    (push-from t t.tasks (new_task n t s (place_at s.spec.mode k) d) (λ x h. task-from t x h) (go s.spec.mode known))
    refl (omega arith)
  where
    go : (m : Mode) → (m ≡ mode.Global → IsKnownNumber t k) → ComesFromNode t (new_task n t s (place_at m k) d)
    go (mode.Replicated r) is = inr (inl refl)
    go mode.Global is = inr (inr (k, refl, is refl))
    go (mode.Job c r) is = inr (inl refl)

-- a dirty place has a task
dirty-has : (t : Tables) (s : Service) (k : ℕ) → is_dirty_place t s k ≡ true → (x : Task) × Has t.tasks x ×
    (x.place ≡ place_at s.spec.mode k)
dirty-has t s k e = go (or_cases _ _ e)
  where
    at : (x : Task) → Has (place_tasks t s k) x → (y : Task) × Has t.tasks y × (y.place ≡ place_at s.spec.mode k)
    at x h =
        let inside = Has-filter_cases (is_in_place s (place_at s.spec.mode k)) t.tasks x h in
        (x, inside.0, place-is s (place_at s.spec.mode k) x inside.1)

    go : (list_any (is_live_dirty s) (place_tasks t s k) ≡ true) ⊎
        ((not (has_live t s k) && is_some_and (closes_dirty s) (newest (place_tasks t s k))) ≡ true) →
        (x : Task) × Has t.tasks x × (x.place ≡ place_at s.spec.mode k)
    go (inl a) = let one = any-has (is_live_dirty s) (place_tasks t s k) a in at one.0 one.1
    go (inr b) =
        let last = some-and-cases (closes_dirty s) (newest (place_tasks t s k)) (second_so _ _ b) in
        at last.0 (newest_has (place_tasks t s k) last.0 last.1)

replace-step : (n : ℕ) (t : Tables) (s : Service) (k : ℕ) → HomeNodes t → is_dirty_place t s k ≡ true →
    NodeStep t (replace_place n t k s)
replace-step n t s k home dirty = go s.spec.update.order
  where
    one : (x : Task) × Has t.tasks x × (x.place ≡ place_at s.spec.mode k)
    one = dirty-has t s k dirty

    fresh : (u : Tables) (d : Desired) → ComesFromNode t (new_task n u s (place_at s.spec.mode k) d)
    fresh u d = place-from t one.0 (place_at s.spec.mode k)
        (new_task n u s (place_at s.spec.mode k) d) home one.1 one.2 refl

    go : (o : UpdateOrder) →
        NodeStep t (change_service s.id (replaced_in n (item_of t (place_at s.spec.mode k))) (by_order n t s k o))
    go order.StopFirst =
        tasks-step t _
        (push-from t (change_where (live_of_place s k) (wanted n desired.Shutdown) t).tasks _
        (touch-from t (live_of_place s k) (wanted n desired.Shutdown) (λ x. refl))
        (fresh (change_where (live_of_place s k) (wanted n desired.Shutdown) t) desired.Ready)) refl (omega arith)
    go order.StartFirst =
        tasks-step t _
        (push-from t t.tasks _ (λ x h. task-from t x h) (fresh t (goal_of s.spec.mode))) refl (omega arith)

ready-known : (n : Node) → is_ready n.state ≡ true → is_known n ≡ true
ready-known n e = or_left (is_ready n.state) (is_down n.state) e

ready-number : (w : World) (m : Node) → IsOrderly w → Has w.tables.nodes m → is_ready m.state ≡ true →
    IsKnownNumber w.tables m.id
ready-number w m orderly h ready = record {
  below = (between-has node_id 1 w.tables.next_id w.tables.nodes m orderly.nodes h).1;
  known = λ n k e.
      ready-known n (ap (λ (z : Node). is_ready z.state)
      (between-one node_id 1 w.tables.next_id w.tables.nodes n m orderly.nodes k h e) ∙ ready);
}

-- the first filter admits to READY nodes alone
admitted-ready : (t : Tables) (x : Task) (m : Node) → admits t x m ≡ true → is_ready m.state ≡ true
admitted-ready t x m e = go (takes_tasks t m) refl
  where
    go : (b : Bool) → takes_tasks t m ≡ b → is_ready m.state ≡ true
    go true k = first_so _ _ (first_so _ _ k)
    go false k =
        let first : passes t x m 0 ≡ false = k in
        let refused : refused_by t x m ≡ Some 0 =
        ap (λ (b : Bool). cond (not b) (Some 0) (find (λ j. not (passes t x m j)) (1 ∷ 2 ∷ 3 ∷ 4 ∷ 5 ∷ []))) first in
        absurd (let wrong : admits t x m ≡ false = ap is_none refused in never-both (admits t x m) wrong e)

place-step : (n : ℕ) (w : World) (x : Task) (m : Node) → IsOrderly w → best_node w.tables x ≡ Some m →
    NodeStep w.tables (change_task x.id (placed n w.tables.clock m.id) w.tables)
place-step n w x m orderly best =
    let is = best-is w.tables x m best in
    tasks-step w.tables (change_task x.id (placed n w.tables.clock m.id) w.tables)
    (each-touched (ComesFromNode w.tables) (λ y. task_id y == x.id) (placed n w.tables.clock m.id) w.tables.tasks
    (λ y h. task-from w.tables y h)
    (λ y h e. inr (inr (m.id, refl, ready-number w m orderly is.0 (admitted-ready w.tables x m is.2)))))
    refl (omega arith)

pub nodes-step : (t : Tables) (u : Tables) (f : Node → Node) (id : ℕ) → u.tasks ≡ t.tasks →
    u.nodes ≡ change_row node_id id f t.nodes → t.next_id ≤ u.next_id → ((m : Node) → (f m).id ≡ m.id) →
    ((m : Node) → is_known m ≡ true → is_known (f m) ≡ true) → NodeStep t u
nodes-step t u f id tasks nodes next same known = record {
  tasks = λ y h. task-from t y (subst (λ (xs : List Task). Has xs y) tasks h);
  nodes = λ m h.
      each-changed (ComesFromKnown t) node_id id f t.nodes (λ k j. node-from t k j)
      (λ k j e. inl (k, j, same k, known k)) m (subst (λ (ns : List Node). Has ns m) nodes h);
  next = next;
}

port-step : (n : ℕ) (t : Tables) (s target : ℕ) (udp : Bool) (o : Option ℕ) →
    NodeStep t (give_port n t s target udp o)
port-step n t s target udp None = same-step t t refl refl (omega arith)
port-step n t s target udp (Some number) = same-step t _ refl refl (omega arith)

note-step : (n : ℕ) (t : Tables) (id : ℕ) → NodeStep t (on_task t id (with_exhausted n t))
note-step n t id = go (row_at task_id id t.tasks)
  where
    with_note : (x : Task) (o : Option Note) → NodeStep t (on_row t (λ k. change_task x.id (noted n k) t) o)
    with_note x None = same-step t t refl refl (omega arith)
    with_note x (Some k) = change-step t x.id (noted n k) (λ y. refl)

    go : (o : Option Task) → NodeStep t (on_row t (with_exhausted n t) o)
    go None = same-step t t refl refl (omega arith)
    go (Some x) = with_note x (exhausted_for t x)

pub raised-node : (n clock : ℕ) (s : TaskState) (x : Task) → (raised_to n clock s x).node ≡ x.node
raised-node n clock s x = go (ltb (rank x.state) (rank s))
  where
    go : (b : Bool) → (cond b (in_state n clock s x) x).node ≡ x.node
    go true = refl
    go false = refl

report-step : (n : ℕ) (w : World) (o : Option Executor) → NodeStep w.tables (reported_by n w o)
report-step n w None = same-step w.tables w.tables refl refl (omega arith)
report-step n w (Some e) =
    change-step w.tables e.task (raised_to n w.tables.clock e.state) (raised-node n w.tables.clock e.state)

fail-step : (n : ℕ) (t : Tables) (v : Service) (b : Bool) (o : Option ServiceSpec) → NodeStep t (fail_run n t v b o)
fail-step n t v true (Some spec) = same-step t _ refl refl (omega arith)
fail-step n t v true None = same-step t _ refl refl (omega arith)
fail-step n t v false o = same-step t _ refl refl (omega arith)

pull-step : (w : World) (n : ℕ) (o : Option Message) → NodeStep w.tables (after_pull w n o).tables
pull-step w n None = same-step w.tables w.tables refl refl (omega arith)
pull-step w n (Some m) = same-step w.tables w.tables refl refl (omega arith)

drop-step : (t : Tables) (id : ℕ) → NodeStep t (without_task id t)
drop-step t id =
    tasks-step t (without_task id t) (λ y h. task-from t y (Has-filter_cases _ t.tasks y h).0) refl (omega arith)

pub duty-nodes : (n : ℕ) (w : World) (d : Duty) → IsOrderly w → HomeNodes w.tables → IsDuty w d →
    NodeStep w.tables (effect_by n w d).tables
duty-nodes n w (duty.Expire m) is home of =
    nodes-step w.tables (change_node m (fallen n w.tables.clock) w.tables) (fallen n w.tables.clock) m refl refl
    (omega arith) (λ k. refl) (λ k e. refl)
duty-nodes n w (duty.Orphan x) is home of = change-step w.tables x _ (λ y. refl)
duty-nodes n w (duty.Reject x) is home of = change-step w.tables x _ (λ y. refl)
duty-nodes n w (duty.Restart x) is home of = restart-step n w.tables x home
duty-nodes n w (duty.Raise x) is home of = change-step w.tables x (raised n) (λ y. refl)
duty-nodes n w (duty.Start s) is home of = on-service w.tables s _ (λ v. same-step w.tables _ refl refl (omega arith))
duty-nodes n w (duty.Fail s) is home of =
    on-service w.tables s _ (λ v. fail-step n w.tables v (may_roll_back v) v.previous)
duty-nodes n w (duty.Swap s k) is home of =
    on-service w.tables s _ (λ v. touch-step w.tables _ (wanted n desired.Shutdown) (λ x. refl))
duty-nodes n w (duty.Replace s k) is home of =
    fact-service w s _ _ is of
    (λ v h fact. replace-step n w.tables v k home (first_so (is_dirty_place w.tables v k) _ fact.1.3.1.1))
duty-nodes n w (duty.Finish s) is home of = on-service w.tables s _ (λ v. same-step w.tables _ refl refl (omega arith))
duty-nodes n w (duty.Gone x) is home of = change-step w.tables x _ (λ y. refl)
duty-nodes n w (duty.Down s k) is home of =
    on-service w.tables s _ (λ v. touch-step w.tables _ (wanted n desired.Remove) (λ x. refl))
duty-nodes n w (duty.ReplicatedCreate s k) is home of =
    fact-service w s _ _ is of
    (λ v h fact. new-step n w.tables v k desired.Running
    (λ e. absurd (let wrong : mode.Replicated fact.0 ≡ mode.Global = sym fact.1 ∙ e in cc)))
duty-nodes n w (duty.Leave s k) is home of =
    on-service w.tables s _ (λ v. touch-step w.tables _ (wanted n desired.Remove) (λ x. refl))
duty-nodes n w (duty.GlobalCreate s k) is home of =
    fact-service w s _ _ is of
    (λ v h fact. new-step n w.tables v k desired.Running
    (λ e. subst (IsKnownNumber w.tables) fact.1.id_is
    (ready-number w fact.1.row is fact.1.there
    (first_so _ _ (first_so _ _ (first_so _ _ fact.1.fact))))))
duty-nodes n w (duty.Old x) is home of = change-step w.tables x _ (λ y. refl)
duty-nodes n w (duty.JobCreate s k) is home of =
    fact-service w s _ _ is of
    (λ v h fact. new-step n w.tables v k desired.Complete
    (λ e. absurd (let wrong : mode.Job fact.0 fact.1 ≡ mode.Global = sym fact.2 ∙ e in cc)))
duty-nodes n w (duty.Port s target udp) is home of = port-step n w.tables s target udp (free_port w.tables udp)
duty-nodes n w (duty.Address x) is home of = change-step w.tables x (with_addresses n w.tables) (λ y. refl)
duty-nodes n w (duty.Note x) is home of = note-step n w.tables x
duty-nodes n w (duty.Drop x) is home of = change-step w.tables x _ (λ y. refl)
duty-nodes n w (duty.Place x m) is home of =
    subst (λ (k : ℕ). NodeStep w.tables (change_task k (placed n w.tables.clock m) w.tables)) of.id_is
    (subst (λ (k : ℕ). NodeStep w.tables (change_task of.row.id (placed n w.tables.clock k) w.tables)) of.fact.3
    (place-step n w of.row of.fact.1 is of.fact.2))
duty-nodes n w (duty.Explain x) is home of = change-step w.tables x (explained n w.tables) (λ y. refl)
duty-nodes n w (duty.Delete x) is home of = drop-step w.tables x
duty-nodes n w (duty.Trim x) is home of = drop-step w.tables x
duty-nodes n w (duty.Register m) is home of =
    nodes-step w.tables _ (ready_node n) m refl refl (omega arith) (λ k. refl) (λ k e. refl)
duty-nodes n w (duty.Beat m) is home of = same-step w.tables _ refl refl (omega arith)
duty-nodes n w (duty.Apply m) is home of = same-step w.tables _ refl refl (omega arith)
duty-nodes n w (duty.Pull m) is home of = pull-step w m (message_for w m)
duty-nodes n w (duty.Exec m x) is home of = same-step w.tables _ refl refl (omega arith)
duty-nodes n w (duty.Report m x) is home of = report-step n w (executor_at w m x)
duty-nodes n w (duty.Forget m x) is home of = same-step w.tables _ refl refl (omega arith)
