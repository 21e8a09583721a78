-- Each duty leaves the tables calm, as long as no report of a new live task tells more than PREPARING.
use Rattle.std.proofs.Common.{Bool, List, None, Option, Some, ap, arith, cond, false, inl, inr, ltb, refl, subst, sym, true, ℕ, ◌∙◌, ◌≡◌, ◌≤◌}
use Rattle.std.proofs.lemmas.Bool.Decides.{nat_tests}
use Rattle.std.specs.Prelude.{not, ◌&&◌}
use Rattle.swarm_settle.proofs.Bound.Calm.Fit.{beat-fit, expire-fit, register-fit}
use Rattle.swarm_settle.proofs.Bound.Calm.Steps.{CalmTask, Calms, Stays, calm-same, calm-state, calms, calms-comes, calms-new, calms-on_service, calms-services, stay-calm, stays-left, stays-same, stays-task, stays-tasks, stays-then, stays-where}
use Rattle.swarm_settle.proofs.Bound.Calm.World.{AreCalm, is_fit, is_well_placed}
use Rattle.swarm_settle.proofs.Bound.Sending.Worlds.{rises-from}
use Rattle.swarm_model.proofs.Base.IsDuty.{GoesTo, IsDuty, OfRow}
use Rattle.swarm_model.proofs.Laws.GivesOut.{GivesOut}
use Rattle.swarm_model.proofs.Laws.Kept.{lighten-raised_to}
use Rattle.swarm_model.proofs.Laws.Room.{admits-all}
use Rattle.swarm_model.proofs.Laws.Timely.{each-changed}
use Rattle.swarm_model.proofs.Moves.Duties.{addressed-moves, closed-moves, dropped-moves, found-is, live-most, noted-moves, raised-moves, rejected-moves}
use Rattle.swarm_model.proofs.Moves.Placing.{best-is}
use Rattle.swarm_model.proofs.Moves.Rows.{between-one}
use Rattle.swarm_model.proofs.Moves.Tables.{desired-most, moves-in_state, moves-raised_to, moves-wanted, rank-most}
use Rattle.swarm_model.proofs.Moves.Worlds.{IsOrderly, TaskMoves}
use Rattle.swarm_objects.proofs.RowLemmas.{Has-from_row_at, row_at-Some}
use Rattle.swarm_objects.proofs.Tests.{both, first_so, never-both, not-true, second_so}
use Rattle.swarm_objects.specs.Agents.Messages.{message_for}
use Rattle.swarm_objects.specs.Changes.{change_task, in_state, noted, on_service, on_task, placed, raised_to, wanted, without_place}
use Rattle.swarm_objects.specs.Duties.{effect_by}
use Rattle.swarm_objects.specs.Loops.Agents.{after_pull, executor_at, reported_by}
use Rattle.swarm_objects.specs.Loops.Allocator.{exhausted_for, gets_address, give_port, with_exhausted}
use Rattle.swarm_objects.specs.Loops.Dispatcher.{is_long_down, is_orphaned}
use Rattle.swarm_objects.specs.Loops.Enforcer.{breaks_constraints, is_misplaced}
use Rattle.swarm_objects.specs.Loops.Restart.{after_restart, by_policy, closed_by, next_task, restarted, shut, wants_raise, wants_restart, with_attempt}
use Rattle.swarm_objects.specs.Loops.Scheduler.{is_to_drop}
use Rattle.swarm_objects.specs.Loops.Update.{by_order, fail_run, live_of_place, may_roll_back, swap_place}
use Rattle.swarm_objects.specs.Nodes.Filters.{takes_tasks}
use Rattle.swarm_objects.specs.Nodes.Sessions.{is_session_live}
use Rattle.swarm_objects.specs.Nodes.Words.{is_active, is_down, is_node_and, is_ready, meets_all}
use Rattle.swarm_objects.specs.Rows.{Has, agent_node, executor_task, is_row_and, is_some_and, node_id, on_row, row_at, task_id}
use Rattle.swarm_objects.specs.Services.Ports.{free_port}
use Rattle.swarm_objects.specs.Services.Words.{is_live_dirty}
use Rattle.swarm_objects.specs.Tasks.New.{goal_of}
use Rattle.swarm_objects.specs.Tasks.Places.{has_other, is_in_place, newest, place_at, tasks_of_place}
use Rattle.swarm_objects.specs.Tasks.Policy.{no_restart}
use Rattle.swarm_objects.specs.Tasks.Words.{is_below_assigned, is_live, is_placed, is_unwanted}
use Rattle.swarm_objects.specs.Values.Ranks.{desired_rank, rank}
use Rattle.swarm_objects.specs.World.{Tables, World}
use Rattle.swarm_objects.specs.declared.agents.Executor.{Executor}
use Rattle.swarm_objects.specs.declared.agents.NodeAgent.{NodeAgent}
use Rattle.swarm_objects.specs.declared.duties.Duty.TheVariants as duty
use Rattle.swarm_objects.specs.declared.duties.Duty.{Duty}
use Rattle.swarm_objects.specs.declared.messages.Message.{Message}
use Rattle.swarm_objects.specs.declared.nodes.Node.{Node}
use Rattle.swarm_objects.specs.declared.nodes.NodeState.{NodeState}
use Rattle.swarm_objects.specs.declared.nodes.NodeState.TheVariants as node_state
use Rattle.swarm_objects.specs.declared.services.Service.{Service}
use Rattle.swarm_objects.specs.declared.services.ServiceSpec.{ServiceSpec}
use Rattle.swarm_objects.specs.declared.services.UpdateOrder.TheVariants as order
use Rattle.swarm_objects.specs.declared.services.UpdateOrder.{UpdateOrder}
use Rattle.swarm_objects.specs.declared.tasks.Closed.{Closed}
use Rattle.swarm_objects.specs.declared.tasks.Desired.TheVariants as desired
use Rattle.swarm_objects.specs.declared.tasks.Desired.{Desired}
use Rattle.swarm_objects.specs.declared.tasks.Note.{Note}
use Rattle.swarm_objects.specs.declared.tasks.Place.{Place}
use Rattle.swarm_objects.specs.declared.tasks.Task.{Task}
use Rattle.swarm_objects.specs.declared.tasks.TaskState.TheVariants as state
use Rattle.swarm_objects.specs.declared.tasks.TaskState.{TaskState}

-- what is wanted of it rises
wanted-calm : (m version : ℕ) (d : Desired) (x : Task) → desired_rank x.desired ≤ desired_rank d →
    CalmTask m x (wanted version d x)
wanted-calm m version d x up = calm-state m x (wanted version d x) (moves-wanted version d x up) refl

removed-calm : (m version : ℕ) (x : Task) → CalmTask m x (wanted version desired.Remove x)
removed-calm m version x = wanted-calm m version desired.Remove x (desired-most x.desired)

-- its state rises to one in which nothing is placed
ended-calm : (m : ℕ) (x y : Task) → TaskMoves x y → is_placed y ≡ false →
    (m ≤ x.id → is_live y ≡ true → rank y.state ≤ rank state.Preparing) → CalmTask m x y
ended-calm m x y moves out early = record {
  moves = moves;
  placed = λ new is. never-both (is_placed y) out is;
  early = λ new live low. early new live;
}

-- the row of the duty is the one that changes
its-row : (m : ℕ) (t : Tables) (next id : ℕ) (Fact : Task → Type 0) (f : Task → Task) → (w : World) → t ≡ w.tables →
    IsOrderly w → OfRow t.tasks task_id id Fact → ((x : Task) → Has t.tasks x → Fact x → CalmTask m x (f x)) →
    Stays m t (change_task id f t)
its-row m t next id Fact f w same orderly of each =
    stays-task m t id f
    (λ y h e.
    let is = between-one task_id 1 w.tables.next_id w.tables.tasks of.row y orderly.tasks
    (subst (λ (u : Tables). Has u.tasks of.row) same of.there) (subst (λ (u : Tables). Has u.tasks y) same h)
    (of.id_is ∙ sym e) in
    subst (λ (z : Task). CalmTask m z (f z)) is (each of.row of.there of.fact))

-- Two tests of a task's node.

of-node : (t : Tables) (p q : Node → Bool) (x : Task) → is_node_and t p x ≡ true → is_node_and t q x ≡ true →
    (n : Node) × (p n ≡ true) × (q n ≡ true)
of-node t p q x one two = go x.node one two
  where
    row : (o : Option Node) → is_some_and p o ≡ true → is_some_and q o ≡ true → (n : Node) × (p n ≡ true) × (q n ≡ true)
    row None a b = absurd cc
    row (Some n) a b = (n, a, b)

    go : (o : Option ℕ) → is_some_and (is_row_and node_id p t.nodes) o ≡ true →
        is_some_and (is_row_and node_id q t.nodes) o ≡ true → (n : Node) × (p n ≡ true) × (q n ≡ true)
    go None a b = absurd cc
    go (Some k) a b = row (row_at node_id k t.nodes) a b

ready-up : (s : NodeState) → is_ready s ≡ true → is_down s ≡ false
ready-up node_state.Ready e = refl
ready-up _ e = absurd cc

never-orphaned : (m : ℕ) (t : Tables) (x : Task) → AreCalm m t → Has t.tasks x → m ≤ x.id → is_orphaned t x ≡ true → ⊥
never-orphaned m t x calm h new e =
    let well = calm.placed x h new (first_so (is_placed x) (is_node_and t (is_long_down t) x) e) in
    let n = of-node t (is_fit t x.template.constraints) (is_long_down t) x well
    (second_so (is_placed x) (is_node_and t (is_long_down t) x) e) in
    let takes = first_so (takes_tasks t n.0) (meets_all x.template.constraints n.0) n.1 in
    let ready = first_so (is_ready n.0.state) (is_active n.0.availability)
    (first_so (is_ready n.0.state && is_active n.0.availability) (is_session_live t n.0.id) takes) in
    never-both (is_down n.0.state) (ready-up n.0.state ready) (first_so (is_down n.0.state) _ n.2)

never-misplaced : (m : ℕ) (t : Tables) (x : Task) → AreCalm m t → Has t.tasks x → m ≤ x.id → is_misplaced t x ≡ true → ⊥
never-misplaced m t x calm h new e =
    let there = second_so (is_live x) (is_placed x)
    (first_so (is_live x && is_placed x) (is_node_and t (breaks_constraints x) x) e) in
    let n = of-node t (is_fit t x.template.constraints) (breaks_constraints x) x (calm.placed x h new there)
    (second_so (is_live x && is_placed x) (is_node_and t (breaks_constraints x) x) e) in
    let meets = second_so (takes_tasks t n.0) (meets_all x.template.constraints n.0) n.1 in
    never-both (meets_all x.template.constraints n.0) (not-true (meets_all x.template.constraints n.0) n.2) meets

-- Restart.

policy-calms : (m version : ℕ) (t u : Tables) (s : Service) (p : Place) (why : Option Closed) → Stays m t u →
    Calms m t (by_policy version u s p why)
policy-calms m version t u s p None first =
    calms-comes m t (with_attempt u s p) (next_task version (with_attempt u s p) s p)
    (stays-then m t u (with_attempt u s p) first
    (stays-tasks m u (with_attempt u s p) refl refl refl (λ constraints k is. is)))
    (record { id = refl; state = refl; created = refl })
policy-calms m version t u s p (Some cause) first = go (newest (tasks_of_place s p u.tasks))
  where
    go : (o : Option Task) → Calms m t (on_row u (λ y. change_task y.id (closed_by version cause) u) o)
    go None = calms first
    go (Some y) =
        calms (stays-then m t u _ first
        (stays-task m u y.id (closed_by version cause)
        (λ x h e. calm-state m x (closed_by version cause x) (closed-moves version cause x) refl)))

restarted-calms : (m version : ℕ) (w : World) (x : Task) (s : Service) → IsOrderly w → Has w.tables.tasks x →
    is_live x ≡ true → Calms m w.tables (restarted version w.tables x s)
restarted-calms m version w x s orderly h live = go (has_other w.tables s x)
  where
    stops : Stays m w.tables (shut version x.id w.tables)
    stops =
        stays-task m w.tables x.id (wanted version desired.Shutdown)
        (λ y there e.
        let is = between-one task_id 1 w.tables.next_id w.tables.tasks x y orderly.tasks h there (sym e) in
        subst (λ (z : Task). CalmTask m z (wanted version desired.Shutdown z)) is
        (wanted-calm m version desired.Shutdown x (live-most x (orderly.good x h) live)))

    go : (b : Bool) →
        Calms m w.tables (cond b (shut version x.id w.tables)
        (by_policy version (shut version x.id w.tables) s x.place (no_restart w.tables s x)))
    go true = calms stops
    go false =
        policy-calms m version w.tables (shut version x.id w.tables) s x.place (no_restart w.tables s x) stops

restart-calms : (m version : ℕ) (w : World) (id : ℕ) → IsOrderly w →
    OfRow w.tables.tasks task_id id (λ x. wants_restart w.tables x ≡ true) →
    Calms m w.tables (after_restart version w.tables id)
restart-calms m version w id orderly of = go (row_at task_id id w.tables.tasks) refl
  where
    go : (o : Option Task) → row_at task_id id w.tables.tasks ≡ o →
        Calms m w.tables (on_row w.tables (λ x. on_service w.tables x.service (restarted version w.tables x)) o)
    go None e = calms (stays-same m w.tables)
    go (Some x) e =
        let is = found-is w.tables id (λ x. wants_restart w.tables x ≡ true) orderly.tasks of x e in
        let live = first_so (is_live x) _ (first_so _ _ is.2) in
        calms-on_service m w.tables x.service (restarted version w.tables x)
        (λ s at. restarted-calms m version w x s orderly is.0 live)

-- Updates.

order-calms : (m version : ℕ) (w : World) (s : Service) (k : ℕ) (o : UpdateOrder) → IsOrderly w →
    Calms m w.tables (by_order version w.tables s k o)
order-calms m version w s k order.StopFirst orderly =
    calms-new m version desired.Ready w.tables _ s k
    (stays-where m w.tables (live_of_place s k) (wanted version desired.Shutdown)
    (λ x h e. wanted-calm m version desired.Shutdown x
    (live-most x (orderly.good x h) (second_so _ (is_live x) e))))
order-calms m version w s k order.StartFirst orderly =
    calms-new m version (goal_of s.spec.mode) w.tables w.tables s k (stays-same m w.tables)

swap-stays : (m version : ℕ) (w : World) (k : ℕ) (s : Service) → IsOrderly w →
    Stays m w.tables (swap_place version w.tables k s)
swap-stays m version w k s orderly =
    stays-where m w.tables (λ x. is_in_place s (place_at s.spec.mode k) x && is_live_dirty s x)
    (wanted version desired.Shutdown)
    (λ x h e. wanted-calm m version desired.Shutdown x
    (live-most x (orderly.good x h) (first_so (is_live x) _ (second_so _ (is_live_dirty s x) e))))

services-stay : (m : ℕ) (t : Tables) (services : List Service) → Stays m t (record t { services = services })
services-stay m t services = stays-tasks m t _ refl refl refl (λ constraints k is. is)

fail-stays : (m version : ℕ) (t : Tables) (s : Service) (back : Bool) (spec : Option ServiceSpec) →
    Stays m t (fail_run version t s back spec)
fail-stays m version t s true (Some spec) = services-stay m t _
fail-stays m version t s true None = services-stay m t _
fail-stays m version t s false spec = services-stay m t _

leave-stays : (m version : ℕ) (t : Tables) (s : Service) (k : ℕ) → Stays m t (without_place version t s k)
leave-stays m version t s k =
    stays-where m t _ (wanted version desired.Remove) (λ x h e. removed-calm m version x)

-- Ports, notes and reports.

port-stays : (m version : ℕ) (t : Tables) (s target : ℕ) (udp : Bool) (number : Option ℕ) →
    Stays m t (give_port version t s target udp number)
port-stays m version t s target udp None = stays-same m t
port-stays m version t s target udp (Some number) = services-stay m t _

note-stays : (m version : ℕ) (t : Tables) (id : ℕ) → Stays m t (on_task t id (with_exhausted version t))
note-stays m version t id = go (row_at task_id id t.tasks)
  where
    with_note : (x : Task) (o : Option Note) → Stays m t (on_row t (λ n. change_task x.id (noted version n) t) o)
    with_note x None = stays-same m t
    with_note x (Some n) =
        stays-task m t x.id _ (λ y h e. calm-state m y (noted version n y) (noted-moves version n y) refl)

    go : (o : Option Task) → Stays m t (on_row t (with_exhausted version t) o)
    go None = stays-same m t
    go (Some x) = with_note x (exhausted_for t x)

-- no executor of a new live task tells more than PREPARING
abbrev pub TellsLittle : ℕ → World → Type 0
TellsLittle m w =
    (a : NodeAgent) (e : Executor) (x : Task) → Has w.agents a → Has a.executors e → Has w.tables.tasks x →
    x.id ≡ e.task → m ≤ x.id → is_live x ≡ true → rank e.state ≤ rank state.Preparing

executor-has : (w : World) (node task : ℕ) (e : Executor) → executor_at w node task ≡ Some e →
    (a : NodeAgent) × Has w.agents a × Has a.executors e
executor-has w node task e at = go (row_at agent_node node w.agents) refl at
  where
    go : (o : Option NodeAgent) → row_at agent_node node w.agents ≡ o →
        on_row None (λ (a : NodeAgent). row_at executor_task task a.executors) o ≡ Some e →
        (a : NodeAgent) × Has w.agents a × Has a.executors e
    go None here k = absurd cc
    go (Some a) here k =
        (a, (Has-from_row_at agent_node node w.agents a here).0, (Has-from_row_at executor_task task a.executors e k).0)

raised-calm : (m version clock : ℕ) (s : TaskState) (x : Task) → rank state.Assigned ≤ rank x.state →
    (m ≤ x.id → is_live x ≡ true → rank s ≤ rank state.Preparing) → CalmTask m x (raised_to version clock s x)
raised-calm m version clock s x given little = record {
  moves = moves-raised_to version clock s x;
  placed = λ new is. (lighten-raised_to version clock s x given).placed is;
  early = λ new live low. go new live low (ltb (rank x.state) (rank s));
}
  where
    wished : (b : Bool) → is_live (cond b (in_state version clock s x) x) ≡ is_live x
    wished true = refl
    wished false = refl

    go : m ≤ x.id → is_live (raised_to version clock s x) ≡ true → rank x.state ≤ rank state.Preparing → (b : Bool) →
        rank (cond b (in_state version clock s x) x).state ≤ rank state.Preparing
    go new live low true = little new (sym (wished (ltb (rank x.state) (rank s))) ∙ live)
    go new live low false = low

report-stays : (m version : ℕ) (w : World) (node task : ℕ) (o : Option Executor) → GivesOut w → TellsLittle m w →
    executor_at w node task ≡ o → Stays m w.tables (reported_by version w o)
report-stays m version w node task None gives little at = stays-same m w.tables
report-stays m version w node task (Some e) gives little at =
    let has = executor-has w node task e at in
    let given = (gives.agents has.0 has.1).executors.given e has.2 in
    stays-task m w.tables e.task _
    (λ x h same.
    raised-calm m version w.tables.clock e.state x (given.there x h same).1
    (λ new live. little has.0 e x has.1 has.2 h same new live))

-- Placing: the node takes tasks, and meets the constraints.

best-fits : (w : World) (x : Task) (n : ℕ) → IsOrderly w → GoesTo w.tables n x →
    is_row_and node_id (is_fit w.tables x.template.constraints) w.tables.nodes n ≡ true
best-fits w x n orderly goes =
    let best = best-is w.tables x goes.1 goes.2 in
    let takes = admits-all w.tables x goes.1 best.2 0 (inl refl) in
    let meets = admits-all w.tables x goes.1 best.2 2 (inr (inr (inl refl))) in
    let at = row_at-Some node_id 0 w.tables.nodes goes.1
    (rises-from node_id 1 w.tables.next_id 0 w.tables.nodes (omega arith) orderly.nodes) best.0 in
    ap (λ (k : ℕ). is_row_and node_id (is_fit w.tables x.template.constraints) w.tables.nodes k) (sym goes.3)
    ∙ ap (is_some_and (is_fit w.tables x.template.constraints)) at
    ∙ both (takes_tasks w.tables goes.1) (meets_all x.template.constraints goes.1) takes meets

place-calm : (m version : ℕ) (w : World) (id n : ℕ) → IsOrderly w → OfRow w.tables.tasks task_id id (GoesTo w.tables n) →
    AreCalm m w.tables → AreCalm m (change_task id (placed version w.tables.clock n) w.tables)
place-calm m version w id n orderly of is = record {
  made = each-changed (λ (x : Task). m ≤ x.id → x.created ≡ w.tables.clock) task_id id
      (placed version w.tables.clock n) w.tables.tasks is.made (λ x h e. is.made x h);
  early = each-changed
      (λ (x : Task). m ≤ x.id → is_live x ≡ true → rank x.state ≤ rank state.Preparing) task_id id
      (placed version w.tables.clock n) w.tables.tasks is.early (λ x h e new live. omega arith);
  placed = each-changed (λ (x : Task). m ≤ x.id → is_placed x ≡ true → is_well_placed w.tables x ≡ true) task_id id
      (placed version w.tables.clock n) w.tables.tasks is.placed
      (λ x h e new there.
      let same = between-one task_id 1 w.tables.next_id w.tables.tasks of.row x orderly.tasks of.there h
      (of.id_is ∙ sym e) in
      subst (λ (z : Task). is_row_and node_id (is_fit w.tables z.template.constraints) w.tables.nodes n ≡ true) same
      (best-fits w of.row n orderly of.fact));
}

-- Any duty.

pulled-tables : (w : World) (n : ℕ) (o : Option Message) → (after_pull w n o).tables ≡ w.tables
pulled-tables w n None = refl
pulled-tables w n (Some m) = refl

pub duty-calm : (m version : ℕ) (w : World) (d : Duty) → IsOrderly w → GivesOut w →
    1 ≤ w.tables.settings.heartbeat → TellsLittle m w → IsDuty w d → AreCalm m w.tables →
    AreCalm m (effect_by version w d).tables
duty-calm m version w (duty.Expire n) orderly gives beats little of is =
    stay-calm m w.tables _
    (calms (stays-tasks m w.tables _ refl refl refl
    (expire-fit version w.tables n
    (subst (λ (k : ℕ). is_session_live w.tables k ≡ false) of.id_is
    (not-true (is_session_live w.tables of.row.id)
    (second_so (is_ready of.row.state) (not (is_session_live w.tables of.row.id)) of.fact)))))) is
duty-calm m version w (duty.Orphan x) orderly gives beats little of is =
    stay-calm m w.tables _
    (calms (its-row m w.tables w.tables.next_id x (λ y. is_orphaned w.tables y ≡ true) _ w refl orderly of
    (λ y h e. ended-calm m y _ (moves-in_state version w.tables.clock state.Orphaned y (rank-most y.state)) refl
    (λ new live. absurd (never-orphaned m w.tables y is h new e))))) is
duty-calm m version w (duty.Reject x) orderly gives beats little of is =
    stay-calm m w.tables _
    (calms (its-row m w.tables w.tables.next_id x (λ y. is_misplaced w.tables y ≡ true) _ w refl orderly of
    (λ y h e. ended-calm m y _ (rejected-moves version w.tables y e) refl
    (λ new live. absurd (never-misplaced m w.tables y is h new e))))) is
duty-calm m version w (duty.Restart x) orderly gives beats little of is =
    stay-calm m w.tables _ (restart-calms m version w x orderly of) is
duty-calm m version w (duty.Raise x) orderly gives beats little of is =
    stay-calm m w.tables _
    (calms (its-row m w.tables w.tables.next_id x (λ y. wants_raise w.tables y ≡ true) _ w refl orderly of
    (λ y h e. calm-state m y _ (raised-moves version w.tables y e) refl))) is
duty-calm m version w (duty.Start s) orderly gives beats little of is =
    stay-calm m w.tables _ (calms-on_service m w.tables s _ (λ v at. calms (services-stay m w.tables _))) is
duty-calm m version w (duty.Fail s) orderly gives beats little of is =
    stay-calm m w.tables _
    (calms-on_service m w.tables s _
    (λ v at. calms (fail-stays m version w.tables v (may_roll_back v) v.previous))) is
duty-calm m version w (duty.Swap s k) orderly gives beats little of is =
    stay-calm m w.tables _
    (calms-on_service m w.tables s _ (λ v at. calms (swap-stays m version w k v orderly))) is
duty-calm m version w (duty.Replace s k) orderly gives beats little of is =
    stay-calm m w.tables _
    (calms-on_service m w.tables s _
    (λ v at. calms-services m w.tables _ _ (order-calms m version w v k v.spec.update.order orderly))) is
duty-calm m version w (duty.Finish s) orderly gives beats little of is =
    stay-calm m w.tables _ (calms-on_service m w.tables s _ (λ v at. calms (services-stay m w.tables _))) is
duty-calm m version w (duty.Gone x) orderly gives beats little of is =
    stay-calm m w.tables _
    (calms (stays-task m w.tables x _ (λ y h e. removed-calm m version y))) is
duty-calm m version w (duty.Down s k) orderly gives beats little of is =
    stay-calm m w.tables _
    (calms-on_service m w.tables s _ (λ v at. calms (leave-stays m version w.tables v k))) is
duty-calm m version w (duty.ReplicatedCreate s k) orderly gives beats little of is =
    stay-calm m w.tables _
    (calms-on_service m w.tables s _
    (λ v at. calms-new m version desired.Running w.tables w.tables v k (stays-same m w.tables))) is
duty-calm m version w (duty.Leave s n) orderly gives beats little of is =
    stay-calm m w.tables _
    (calms-on_service m w.tables s _ (λ v at. calms (leave-stays m version w.tables v n))) is
duty-calm m version w (duty.GlobalCreate s n) orderly gives beats little of is =
    stay-calm m w.tables _
    (calms-on_service m w.tables s _
    (λ v at. calms-new m version desired.Running w.tables w.tables v n (stays-same m w.tables))) is
duty-calm m version w (duty.Old x) orderly gives beats little of is =
    stay-calm m w.tables _
    (calms (stays-task m w.tables x _ (λ y h e. removed-calm m version y))) is
duty-calm m version w (duty.JobCreate s k) orderly gives beats little of is =
    stay-calm m w.tables _
    (calms-on_service m w.tables s _
    (λ v at. calms-new m version desired.Complete w.tables w.tables v k (stays-same m w.tables))) is
duty-calm m version w (duty.Port s target udp) orderly gives beats little of is =
    stay-calm m w.tables _ (calms (port-stays m version w.tables s target udp (free_port w.tables udp))) is
duty-calm m version w (duty.Address x) orderly gives beats little of is =
    stay-calm m w.tables _
    (calms (its-row m w.tables w.tables.next_id x (λ y. gets_address w.tables y ≡ true) _ w refl orderly of
    (λ y h e. ended-calm m y _ (addressed-moves version w.tables y e) refl (λ new live. omega arith)))) is
duty-calm m version w (duty.Note x) orderly gives beats little of is =
    stay-calm m w.tables _ (calms (note-stays m version w.tables x)) is
duty-calm m version w (duty.Drop x) orderly gives beats little of is =
    stay-calm m w.tables _
    (calms (its-row m w.tables w.tables.next_id x (λ y. is_to_drop y ≡ true) _ w refl orderly of
    (λ y h e. ended-calm m y _ (dropped-moves version w.tables.clock y e) refl
    (λ new live.
    let stop : is_unwanted y ≡ true = second_so (is_below_assigned y) (is_unwanted y) e in
    let goal = (orderly.good y h).goal in
    absurd (dead y stop goal live))))) is
  where
    dead : (y : Task) → is_unwanted y ≡ true → desired_rank y.goal ≤ desired_rank desired.Complete →
        is_live y ≡ true → ⊥
    dead y stop goal live =
        let high : desired_rank desired.Shutdown ≤ desired_rank y.desired = grind (arith, nat_tests, stop) in
        let low : desired_rank y.desired ≤ desired_rank y.goal = grind (arith, nat_tests, live) in
        absurd (omega (arith, high, low, goal))
duty-calm m version w (duty.Place x n) orderly gives beats little of is = place-calm m version w x n orderly of is
duty-calm m version w (duty.Explain x) orderly gives beats little of is =
    stay-calm m w.tables _
    (calms (stays-task m w.tables x _ (λ y h e. calm-state m y _ (noted-moves version _ y) refl))) is
duty-calm m version w (duty.Delete x) orderly gives beats little of is =
    stay-calm m w.tables _ (calms (stays-left m w.tables x)) is
duty-calm m version w (duty.Trim x) orderly gives beats little of is =
    stay-calm m w.tables _ (calms (stays-left m w.tables x)) is
duty-calm m version w (duty.Register n) orderly gives beats little of is =
    let ended : is_session_live w.tables n ≡ false =
    subst (λ (k : ℕ). is_session_live w.tables k ≡ false) of.id_is of.fact.1 in
    stay-calm m w.tables _
    (record {
      tasks = λ y h. inl (y, h, calm-same m y);
      clock = refl;
      fit = register-fit version w.tables n ended;
    }) is
duty-calm m version w (duty.Beat n) orderly gives beats little of is =
    stay-calm m w.tables _ (calms (stays-tasks m w.tables _ refl refl refl (beat-fit w.tables n beats))) is
duty-calm m version w (duty.Apply n) orderly gives beats little of is = is
duty-calm m version w (duty.Pull n) orderly gives beats little of is =
    subst (AreCalm m) (sym (pulled-tables w n (message_for w n))) is
duty-calm m version w (duty.Exec n x) orderly gives beats little of is = is
duty-calm m version w (duty.Report n x) orderly gives beats little of is =
    stay-calm m w.tables _
    (calms (report-stays m version w n x (executor_at w n x) gives little refl)) is
duty-calm m version w (duty.Forget n x) orderly gives beats little of is = is
