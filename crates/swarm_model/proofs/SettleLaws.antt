-- Where nothing is due, the time that is waited for is after the clock, so no tick to it is 0.
use Rattle.std.proofs.Common.{arith, inl, inr, subst}
use Rattle.std.specs.Prelude.{Bool, List, None, Option, Some, [], false, filter, find, flat_map, if◌then◌else◌, is_some, nat_eq, nat_le, nat_lt, not, option_to_list, refl, true, ℕ, ◌&&◌, ◌++◌, ◌+◌, ◌<◌, ◌||◌, ◌∷◌, ◌≡◌, ◌⊎◌}
use Rattle.std.proofs.lemmas.Bool.Decides.{nat_tests}
use Rattle.std.specs.Option.{option_map}
use Rattle.std.specs.Ordering.{nat_cmp}
use Rattle.std.specs.declared.cmp.Ordering.{Ordering}
use Rattle.swarm_model.proofs.Moves.Placing.{least-has}
use Rattle.swarm_model.specs.Settle.{Wait, deadline_of, executor_wait, first_wait, flight_times, flight_wait, has_live_session, has_waiting_place, held_answer, held_by, idle_answer, is_awaited_there, is_behind, is_holding, is_paused, is_remote, is_silent, least_time, node_deadline, paused_by, phase_wait, remote_wait, run_wait, session_wait, settle_answer, start_wait, update_wait, wait_cmp, wait_till, wait_where, waiting_answer, waits, watch_times, watch_wait}
use Rattle.swarm_objects.proofs.Empty.{append_empty, filter_empty, flat_map_empty, map_empty}
use Rattle.swarm_objects.proofs.RowLemmas.{Has-append_cases, Has-filter_cases, Has-flat_map_cases, Has-map_cases}
use Rattle.swarm_objects.proofs.Tests.{both_are, not-true}
use Rattle.swarm_objects.specs.Agents.Executors.{at_time, ending, executor_step, exit_time, exited, moved, phase_time, prepared, stopped_at, wants_to_stop}
use Rattle.swarm_objects.specs.Duties.{duties, first_duty}
use Rattle.swarm_objects.specs.Kinds.{roles}
use Rattle.swarm_objects.specs.Loops.Agents.{agent_duties, agents, duties_on, has_step, inbox_duties, is_forgotten, is_mode_on, report_duties, session_duties}
use Rattle.swarm_objects.specs.Loops.Dispatcher.{dispatcher, is_expired, is_orphaned}
use Rattle.swarm_objects.specs.Loops.Update.{is_watched}
use Rattle.swarm_objects.specs.Loops.Words.{duty_where}
use Rattle.swarm_objects.specs.Nodes.Sessions.{is_before_deadline, is_session_live, session_of}
use Rattle.swarm_objects.specs.Nodes.Words.{is_node_and, is_ready}
use Rattle.swarm_objects.specs.Rows.{Has, agent_node, first_of, is_row_and, is_some_and, least_by, on_row}
use Rattle.swarm_objects.specs.Services.Runs.{flying_tasks, has_open_run, has_room, is_flying, is_under_way}
use Rattle.swarm_objects.specs.Services.Words.{is_live_clean}
use Rattle.swarm_objects.specs.Tasks.Places.{has_dirty_place, tasks_of_place}
use Rattle.swarm_objects.specs.Tasks.Words.{is_below_running, is_live, is_placed, is_running, is_to_wait}
use Rattle.swarm_objects.specs.Values.Ranks.{rank}
use Rattle.swarm_objects.specs.World.{Tables, World}
use Rattle.swarm_objects.specs.declared.agents.Executor.{Executor}
use Rattle.swarm_objects.specs.declared.agents.NodeAgent.{NodeAgent}
use Rattle.swarm_objects.specs.declared.duties.Cause.{Cause}
use Rattle.swarm_objects.specs.declared.duties.Cause.TheVariants as cause
use Rattle.swarm_objects.specs.declared.duties.Duty.{Duty}
use Rattle.swarm_objects.specs.declared.duties.Duty.TheVariants as duty
use Rattle.swarm_objects.specs.declared.duties.Settle.{Settle}
use Rattle.swarm_objects.specs.declared.duties.Settle.TheVariants as settle
use Rattle.swarm_objects.specs.declared.loops.Role.{Role}
use Rattle.swarm_objects.specs.declared.loops.Role.TheVariants as role
use Rattle.swarm_objects.specs.declared.nodes.Node.{Node}
use Rattle.swarm_objects.specs.declared.services.Replaced.{Replaced}
use Rattle.swarm_objects.specs.declared.services.Service.{Service}
use Rattle.swarm_objects.specs.declared.services.UpdateRun.{UpdateRun}
use Rattle.swarm_objects.specs.declared.sessions.NodeSession.{NodeSession}
use Rattle.swarm_objects.specs.declared.tasks.Task.{Task}
use Rattle.swarm_objects.specs.declared.tasks.TaskState.{TaskState}
use Rattle.swarm_objects.specs.declared.tasks.TaskState.TheVariants as state
use Rattle.swarm_objects.specs.declared.templates.End.{End}
use Rattle.swarm_objects.specs.declared.templates.End.TheVariants as end

is_less : (m n : ℕ) → nat_lt m n ≡ true → m < n
is_less m n e = grind (arith, nat_tests)

is_more : (m n : ℕ) → nat_le m n ≡ false → n < m
is_more m n e = grind (arith, nat_tests)

-- Nothing is due.

pub nothing_first : (w : World) (rs : List Role) (r : Role) → first_duty w rs ≡ None → Has rs r → duties r w ≡ []
nothing_first w [] r e h = absurd h
nothing_first w (x ∷ rs) r e h = go (duties x w) refl e h (nothing_first w rs r)
  where
    go : (ds : List Duty) → duties x w ≡ ds
        → ◌≡◌ {A = Option Duty} (elim (first_of ds) [ Some d ↦ Some d | None ↦ first_duty w rs ]) None → Has (x ∷ rs) r
        → (first_duty w rs ≡ None → Has rs r → duties r w ≡ []) → duties r w ≡ []
    go [] q n (inl k) rest = subst (λ z. duties z w ≡ []) k q
    go [] q n (inr k) rest = rest n k
    go (d ∷ ds) q n k rest = absurd cc

-- Waits.

abbrev AllAfter : ℕ → List Wait → Type 0
AllAfter clock ws = (x : Wait) → Has ws x → clock < x.time

none_after : (clock : ℕ) → AllAfter clock []
none_after clock x h = absurd h

append_after : (clock : ℕ) (xs ys : List Wait) → AllAfter clock xs → AllAfter clock ys → AllAfter clock (xs ++ ys)
append_after clock xs ys a b x h = elim (Has-append_cases xs ys x h) [ inl k ↦ a x k | inr k ↦ b x k ]

each_after : {X : Type 0} (clock : ℕ) (f : X → List Wait) (rows : List X)
    → ((r : X) → Has rows r → AllAfter clock (f r)) → AllAfter clock (flat_map f rows)
each_after clock f rows all x h = let r = Has-flat_map_cases f rows x h in all r.0 r.1 x r.2

where_after : (clock : ℕ) (b : Bool) (why : Cause) (id time : ℕ) → (b ≡ true → clock < time)
    → AllAfter clock (wait_where b why id time)
where_after clock true why id time is x (inl k) = subst (λ (y : Wait). clock < y.time) k (is refl)
where_after clock true why id time is x (inr k) = absurd k
where_after clock false why id time is x h = absurd h

till_after : (clock : ℕ) (why : Cause) (id : ℕ) (time : Option ℕ) → ((t : ℕ) → time ≡ Some t → clock < t)
    → AllAfter clock (wait_till why id time)
till_after clock why id None is x h = absurd h
till_after clock why id (Some t) is x (inl k) = subst (λ (y : Wait). clock < y.time) k (is t refl)
till_after clock why id (Some t) is x (inr k) = absurd k

if_after : (clock : ℕ) (b : Bool) (ws : List Wait) → (b ≡ true → AllAfter clock ws)
    → AllAfter clock (if b then ws else [])
if_after clock true ws is = is refl
if_after clock false ws is = none_after clock

least_of : {X : Type 0} (compare : X → X → Ordering) (xs : List X) (y : X) → least_by compare None xs ≡ Some y
    → Has xs y
least_of compare xs y e = elim (least-has compare None xs y e) [ inl k ↦ absurd cc | inr k ↦ k ]

times_after : (clock : ℕ) (times : List ℕ) → ((t : ℕ) → Has times t → clock < t) → (t : ℕ) → least_time times ≡ Some t
    → clock < t
times_after clock times all t e = all t (least_of nat_cmp times t e)

-- Tasks that wait to be raised.

start_after : (t : Tables) (x : Task) → AllAfter t.clock (start_wait t x)
start_after t x =
    where_after t.clock (is_live x && is_to_wait x && nat_lt t.clock x.raise_at) cause.Start x.id x.raise_at
    (λ e. is_less t.clock x.raise_at (both_are (is_live x && is_to_wait x) (nat_lt t.clock x.raise_at) e).1)

-- Updates.

below_is_none : (n m : ℕ) → nat_eq n m ≡ true → nat_lt n m ≡ false
below_is_none n m e = grind (arith, nat_tests)

either : (p q : Bool) → (p || q) ≡ true → p ≡ false → q ≡ true
either true q e f = absurd cc
either false q e f = e

-- a task in flight that runs does so for less than the delay
flying_after : (t : Tables) (s : Service) (x : Task) → is_flying t s x ≡ true → is_running x ≡ true
    → t.clock < x.since + s.spec.update.delay
flying_after t s x e r =
    let flies = both_are (is_live_clean s x)
    (is_below_running x || (is_running x && nat_lt t.clock (x.since + s.spec.update.delay))) e in
    let runs = either (is_below_running x) (is_running x && nat_lt t.clock (x.since + s.spec.update.delay)) flies.1
    (below_is_none (rank x.state) (rank state.Running) r) in
    is_less t.clock (x.since + s.spec.update.delay)
    (both_are (is_running x) (nat_lt t.clock (x.since + s.spec.update.delay)) runs).1

flights_after : (t : Tables) (s : Service) (run : UpdateRun) (time : ℕ) → Has (flight_times t s run) time
    → t.clock < time
flights_after t s run time h =
    let m = Has-map_cases (λ (x : Task). x.since + s.spec.update.delay)
    (filter is_running (flat_map (flying_tasks t s) run.replaced)) time h in
    let f = Has-filter_cases is_running (flat_map (flying_tasks t s) run.replaced) m.0 m.1 in
    let i = Has-flat_map_cases (flying_tasks t s) run.replaced m.0 f.0 in
    let y = Has-filter_cases (is_flying t s) (tasks_of_place s i.0.place t.tasks) m.0 i.2 in
    subst (λ z. t.clock < z) m.2 (flying_after t s m.0 y.1 f.1)

watches_after : (t : Tables) (s : Service) (run : UpdateRun) (time : ℕ) → Has (watch_times t s run) time
    → t.clock < time
watches_after t s run time h =
    let m = Has-map_cases (λ (i : Replaced). i.created + s.spec.update.monitor)
    (filter (λ i. not (is_watched t s i)) run.replaced) time h in
    let f = Has-filter_cases (λ i. not (is_watched t s i)) run.replaced m.0 m.1 in
    subst (λ z. t.clock < z) m.2
    (is_more (m.0.created + s.spec.update.monitor) t.clock (not-true (is_watched t s m.0) f.1))

run_after : (t : Tables) (s : Service) (run : UpdateRun) → AllAfter t.clock (run_wait t s run)
run_after t s run = if_after t.clock (is_under_way run) (flight_wait t s run ++ watch_wait t s run)
    (λ _. append_after t.clock (flight_wait t s run) (watch_wait t s run)
    (if_after t.clock (has_waiting_place t s && not (has_room t s run))
    (wait_till cause.Update s.id (least_time (flight_times t s run)))
    (λ _. till_after t.clock cause.Update s.id (least_time (flight_times t s run))
    (times_after t.clock (flight_times t s run) (flights_after t s run))))
    (watch_after (has_dirty_place t s)))
  where
    watch_after : (b : Bool)
        → AllAfter t.clock (if b then [] else wait_till cause.Update s.id (least_time (watch_times t s run)))
    watch_after true = none_after t.clock
    watch_after false =
        till_after t.clock cause.Update s.id (least_time (watch_times t s run))
        (times_after t.clock (watch_times t s run) (watches_after t s run))

update_after : (t : Tables) (s : Service) → AllAfter t.clock (update_wait t s)
update_after t s = go s.run
  where
    go : (o : Option UpdateRun) → AllAfter t.clock (on_row [] (run_wait t s) o)
    go None = none_after t.clock
    go (Some run) = run_after t s run

-- Executors.

some_is : {X : Type 0} (x y : X) → Some x ≡ Some y → x ≡ y
some_is x y e = cc

time_after : (clock time t : ℕ) (after : Executor) → at_time clock time after ≡ None → Some time ≡ Some t → clock < t
time_after clock time t after e p = go (nat_le time clock) refl e
  where
    go : (b : Bool) → nat_le time clock ≡ b → (if b then Some after else None) ≡ None → clock < t
    go true q n = absurd cc
    go false q n = subst (λ z. clock < z) (some_is time t p) (is_more time clock q)

-- neither stopping nor wanting to
unless_stopping : (clock time t : ℕ) (b : Bool) (stopped after : Executor)
    → (if b then Some stopped else at_time clock time after) ≡ None
    → (if b then None else Some time) ≡ Some t → clock < t
unless_stopping clock time t true stopped after e p = absurd cc
unless_stopping clock time t false stopped after e p = time_after clock time t after e p

unless_ending : (clock t : ℕ) (e : Executor) (b : Bool) (stopped : Executor) (end : End)
    → (if b then Some stopped else ending clock e end) ≡ None
    → (if b then None else exit_time e end) ≡ Some t → clock < t
unless_ending clock t e true stopped end n p = absurd cc
unless_ending clock t e false stopped end.Never n p = absurd cc
unless_ending clock t e false stopped (end.Exit time code) n p =
    time_after clock (e.since + time) t (moved clock (exited code) e) n p
unless_ending clock t e false stopped end.Reject n p = absurd cc

no_phase : (b : Bool) (t : ℕ) → (if b then None else None) ≡ Some t → ⊥
no_phase true t p = absurd cc
no_phase false t p = absurd cc

abbrev stepped_in : Executor → TaskState → Option ℕ → Executor
stepped_in e s o = record e { state = s; stopping = o }

-- an executor without a step waits for a later time
abbrev PhaseAfter : ℕ → Executor → Type 0
PhaseAfter clock e = (t : ℕ) → executor_step clock e ≡ None → phase_time e ≡ Some t → clock < t

in_state_after : (clock : ℕ) (e : Executor) (s : TaskState) (o : Option ℕ) → PhaseAfter clock (stepped_in e s o)
in_state_after clock e state.Preparing o t n p =
    unless_stopping clock (e.since + e.workload.prepare) t (wants_to_stop (stepped_in e state.Preparing o))
    (moved clock state.Shutdown (stepped_in e state.Preparing o))
    (moved clock (prepared e.workload.end) (stepped_in e state.Preparing o)) n p
in_state_after clock e state.Starting (Some time) t n p =
    time_after clock time t (moved clock state.Shutdown (stepped_in e state.Starting (Some time))) n p
in_state_after clock e state.Starting None t n p =
    unless_stopping clock (e.since + e.workload.start) t (wants_to_stop (stepped_in e state.Starting None))
    (stopped_at clock (stepped_in e state.Starting None))
    (moved clock state.Running (stepped_in e state.Starting None)) n p
in_state_after clock e state.Running (Some time) t n p =
    time_after clock time t (moved clock state.Shutdown (stepped_in e state.Running (Some time))) n p
in_state_after clock e state.Running None t n p =
    unless_ending clock t (stepped_in e state.Running None) (wants_to_stop (stepped_in e state.Running None))
    (stopped_at clock (stepped_in e state.Running None)) e.workload.end n p
in_state_after clock e state.New o t n p = absurd (no_phase (wants_to_stop (stepped_in e state.New o)) t p)
in_state_after clock e state.Pending o t n p = absurd (no_phase (wants_to_stop (stepped_in e state.Pending o)) t p)
in_state_after clock e state.Assigned o t n p = absurd (no_phase (wants_to_stop (stepped_in e state.Assigned o)) t p)
in_state_after clock e state.Accepted o t n p = absurd (no_phase (wants_to_stop (stepped_in e state.Accepted o)) t p)
in_state_after clock e state.Ready o t n p = absurd (no_phase (wants_to_stop (stepped_in e state.Ready o)) t p)
in_state_after clock e state.Complete o t n p = absurd (no_phase (wants_to_stop (stepped_in e state.Complete o)) t p)
in_state_after clock e state.Shutdown o t n p = absurd (no_phase (wants_to_stop (stepped_in e state.Shutdown o)) t p)
in_state_after clock e state.Failed o t n p = absurd (no_phase (wants_to_stop (stepped_in e state.Failed o)) t p)
in_state_after clock e state.Rejected o t n p = absurd (no_phase (wants_to_stop (stepped_in e state.Rejected o)) t p)
in_state_after clock e state.Remove o t n p = absurd (no_phase (wants_to_stop (stepped_in e state.Remove o)) t p)
in_state_after clock e state.Orphaned o t n p = absurd (no_phase (wants_to_stop (stepped_in e state.Orphaned o)) t p)

pub phase_after : (clock : ℕ) (e : Executor) → PhaseAfter clock e
phase_after clock e = in_state_after clock e e.state e.stopping

pub no_step : (o : Option Executor) → is_some o ≡ false → o ≡ None
no_step None e = refl
no_step (Some x) e = absurd cc

nothing_on : (w : World) (a : NodeAgent) (b : Bool)
    → (if b then duties_on w a (is_session_live w.tables a.node) else []) ≡ [] → b ≡ true
    → duty_where (has_step w.tables.clock) (λ e. duty.Exec a.node e.task) a.executors ≡ []
nothing_on w a true e q =
    let live = is_session_live w.tables a.node in
    let execs = duty_where (has_step w.tables.clock) (λ (x : Executor). duty.Exec a.node x.task) a.executors in
    let forgets = duty_where is_forgotten (λ (x : Executor). duty.Forget a.node x.task) a.executors in
    let one = append_empty
    (session_duties w a live ++ inbox_duties w a live a.inbox ++ execs ++ report_duties w a live) forgets e in
    let two = append_empty (session_duties w a live ++ inbox_duties w a live a.inbox ++ execs)
    (report_duties w a live) one.0 in
    (append_empty (session_duties w a live ++ inbox_duties w a live a.inbox) execs two.0).1
nothing_on w a false e q = absurd cc

executors_after : (w : World) (a : NodeAgent) → agents w ≡ [] → Has w.agents a
    → AllAfter w.tables.clock (executor_wait a)
executors_after w a none h = if_after w.tables.clock (is_mode_on a.mode) (flat_map phase_wait a.executors)
    (λ on. each_after w.tables.clock phase_wait a.executors
    (λ e k. till_after w.tables.clock cause.Executor e.task (phase_time e)
    (λ t p. phase_after w.tables.clock e t
    (no_step (executor_step w.tables.clock e)
    (filter_empty (has_step w.tables.clock) a.executors e
    (map_empty (λ (x : Executor). duty.Exec a.node x.task) (filter (has_step w.tables.clock) a.executors)
    (nothing_on w a (is_mode_on a.mode) (flat_map_empty (agent_duties w) w.agents a none h) on)) k))
    p)))

-- Sessions.

deadline_after : (clock t : ℕ) (o : Option NodeSession) → is_before_deadline clock o ≡ true
    → option_map (λ (s : NodeSession). s.session.deadline) o ≡ Some t → clock < t
deadline_after clock t None e p = absurd cc
deadline_after clock t (Some s) e p =
    subst (λ z. clock < z) (some_is s.session.deadline t p) (is_less clock s.session.deadline e)

live_after : (t : Tables) (node time : ℕ) → is_session_live t node ≡ true → deadline_of t node ≡ Some time
    → t.clock < time
live_after t node time live p = deadline_after t.clock time (session_of t node) live p

ready_is_live : (ready live : Bool) → ready ≡ true → (ready && not live) ≡ false → live ≡ true
ready_is_live true true r e = refl
ready_is_live true false r e = absurd cc
ready_is_live false live r e = absurd cc

sessions_after : (w : World) (n : Node) → dispatcher w.tables ≡ [] → Has w.tables.nodes n
    → AllAfter w.tables.clock (session_wait w n)
sessions_after w n none h =
    if_after w.tables.clock (is_silent w n) (wait_till cause.Session n.id (deadline_of w.tables n.id))
    (λ silent. till_after w.tables.clock cause.Session n.id (deadline_of w.tables n.id)
    (λ t p. live_after w.tables n.id t
    (ready_is_live (is_ready n.state) (is_session_live w.tables n.id)
    (both_are (is_ready n.state) (not n.remote)
    (both_are (is_ready n.state && not n.remote)
    (is_row_and agent_node (λ a. not (is_mode_on a.mode)) w.agents n.id) silent).0).0
    (filter_empty (is_expired w.tables) w.tables.nodes n
    (map_empty (λ (x : Node). duty.Expire x.id) (filter (is_expired w.tables) w.tables.nodes)
    (append_empty (duty_where (is_expired w.tables) (λ x. duty.Expire x.id) w.tables.nodes)
    (duty_where (is_orphaned w.tables) (λ x. duty.Orphan x.id) w.tables.tasks) none).0) h))
    p))

remote_after : (t : Tables) (x : Task) → AllAfter t.clock (remote_wait t x)
remote_after t x = if_after t.clock (is_awaited_there t x) (wait_till cause.Remote x.id (node_deadline t x))
    (λ e. till_after t.clock cause.Remote x.id (node_deadline t x)
    (λ time p. at_node x.node time
    (both_are (is_placed x && is_node_and t is_remote x) (has_live_session t x)
    (both_are (is_placed x && is_node_and t is_remote x && has_live_session t x)
    (is_behind x.state x.desired) e).0).1 p))
  where
    at_node : (o : Option ℕ) (time : ℕ) → is_some_and (is_session_live t) o ≡ true → on_row None (deadline_of t) o
        ≡ Some time → t.clock < time
    at_node None time e p = absurd cc
    at_node (Some node) time e p = live_after t node time e p

-- All.

pub waits_after : (w : World) → first_duty w roles ≡ None → AllAfter w.tables.clock (waits w)
waits_after w none =
    let clock = w.tables.clock in
    let starts = flat_map (start_wait w.tables) w.tables.tasks in
    let updates = flat_map (update_wait w.tables) w.tables.services in
    let executors = flat_map executor_wait w.agents in
    let sessions = flat_map (session_wait w) w.tables.nodes in
    let idle = nothing_first w roles role.Agents none
    (inr (inr (inr (inr (inr (inr (inr (inr (inr (inr (inl refl))))))))))) in
    let calm = nothing_first w roles role.Dispatcher none (inl refl) in
    append_after clock (starts ++ updates ++ executors ++ sessions) (flat_map (remote_wait w.tables) w.tables.tasks)
    (append_after clock (starts ++ updates ++ executors) sessions
    (append_after clock (starts ++ updates) executors
    (append_after clock starts updates
    (each_after clock (start_wait w.tables) w.tables.tasks (λ x h. start_after w.tables x))
    (each_after clock (update_wait w.tables) w.tables.services (λ s h. update_after w.tables s)))
    (each_after clock executor_wait w.agents (λ a h. executors_after w a idle h)))
    (each_after clock (session_wait w) w.tables.nodes (λ n h. sessions_after w n calm h)))
    (each_after clock (remote_wait w.tables) w.tables.tasks (λ x h. remote_after w.tables x))

-- The answer.

abbrev IsNoWait : Settle → Type 0
IsNoWait a = (t : ℕ) (c : Cause) (i : ℕ) → a ≡ settle.Waiting t c i → ⊥

held_is_none : (t : Tables) (s : Service) (a : Settle) → Has (held_by t s) a → IsNoWait a
held_is_none t s a h = go (has_open_run s) h
  where
    one : (o : Option Task) → Has (option_to_list (option_map (held_answer s.id) o)) a → IsNoWait a
    one None k = absurd k
    one (Some x) (inl k) = λ t c i e. absurd cc
    one (Some x) (inr k) = absurd k

    go : (b : Bool)
        → Has (if b then option_to_list (option_map (held_answer s.id) (find (is_holding s) t.tasks)) else []) a
        → IsNoWait a
    go true k = one (find (is_holding s) t.tasks) k
    go false k = absurd k

paused_is_none : (s : Service) (a : Settle) → Has (paused_by s) a → IsNoWait a
paused_is_none s a h = go (is_paused s) h
  where
    go : (b : Bool) → Has (if b then settle.Paused s.id ∷ [] else []) a → IsNoWait a
    go true (inl k) = λ t c i e. absurd cc
    go true (inr k) = absurd k
    go false k = absurd k

abbrev later_answers : World → List Settle
later_answers w =
    flat_map (held_by w.tables) w.tables.services ++ flat_map paused_by w.tables.services ++ settle.Settled ∷ []

later_is_none : (w : World) (a : Settle) → Has (later_answers w) a → IsNoWait a
later_is_none w a h =
    go (Has-append_cases (flat_map (held_by w.tables) w.tables.services ++ flat_map paused_by w.tables.services)
    (settle.Settled ∷ []) a h)
  where
    early : Has (flat_map (held_by w.tables) w.tables.services) a ⊎ Has (flat_map paused_by w.tables.services) a
        → IsNoWait a
    early (inl k) =
        let s = Has-flat_map_cases (held_by w.tables) w.tables.services a k in held_is_none w.tables s.0 a s.2
    early (inr k) = let s = Has-flat_map_cases paused_by w.tables.services a k in paused_is_none s.0 a s.2

    go : Has (flat_map (held_by w.tables) w.tables.services ++ flat_map paused_by w.tables.services) a ⊎ Has
        (settle.Settled ∷ []) a → IsNoWait a
    go (inl k) =
        early (Has-append_cases (flat_map (held_by w.tables) w.tables.services)
        (flat_map paused_by w.tables.services) a k)
    go (inr (inl k)) = λ t c i e. absurd cc
    go (inr (inr k)) = absurd k

first_is_none : (answers : List Settle) → ((a : Settle) → Has answers a → IsNoWait a)
    → IsNoWait (on_row settle.Settled (λ a. a) (first_of answers))
first_is_none [] all = λ t c i e. absurd cc
first_is_none (a ∷ answers) all = all a (inl refl)

same_time : (s t : ℕ) (b c : Cause) (i j : ℕ) → settle.Waiting s b i ≡ settle.Waiting t c j → s ≡ t
same_time s t b c i j e = cc

idle_after : (w : World) (t : ℕ) (c : Cause) (i : ℕ) → first_duty w roles ≡ None → idle_answer w ≡ settle.Waiting t c i
    → w.tables.clock < t
idle_after w t c i none e = go (first_wait w) refl e
  where
    go : (o : Option Wait) → first_wait w ≡ o
        → on_row settle.Settled (λ a. a)
        (first_of
        (waiting_answer o ++ flat_map (held_by w.tables) w.tables.services ++ flat_map paused_by w.tables.services
        ++ settle.Settled ∷ []))
        ≡ settle.Waiting t c i → w.tables.clock < t
    go None q k = absurd (first_is_none (later_answers w) (later_is_none w) t c i k)
    go (Some x) q k =
        subst (λ z. w.tables.clock < z) (same_time x.time t x.cause c x.id i k)
        (waits_after w none x (least_of wait_cmp (waits w) x q))

-- the time that the settle test says is waited for is after the clock
pub waiting_after : (w : World) (t : ℕ) (c : Cause) (i : ℕ) → settle_answer w ≡ settle.Waiting t c i
    → w.tables.clock < t
waiting_after w t c i e = go (first_duty w roles) refl e
  where
    go : (o : Option Duty) → first_duty w roles ≡ o → elim o [ Some d ↦ settle.Busy d | None ↦ idle_answer w ]
        ≡ settle.Waiting t c i → w.tables.clock < t
    go None q k = idle_after w t c i q k
    go (Some d) q k = absurd cc
