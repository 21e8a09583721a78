-- Every duty keeps a law of tables that each kind of change keeps.
use Rattle.std.proofs.Common.{Bool, List, None, Option, Some, [], ap, arith, cond, eqb, false, inl, inr, refl, subst, sym, true, ℕ, ◌++◌, ◌∙◌, ◌∷◌, ◌≡◌, ◌⊎◌}
use Rattle.std.proofs.lemmas.Bool.Decides.{nat_tests}
use Rattle.std.specs.Option.{option_map}
use Rattle.std.specs.Prelude.{map, not, ◌&&◌, ◌==◌}
use Rattle.swarm_model.proofs.Base.IsDuty.{IsDuty, OfRow}
use Rattle.swarm_model.proofs.Laws.Alone.{dirty-new, gap-new, new-alone, next-alone, none-of-any, unheld-new}
use Rattle.swarm_model.proofs.Laws.GivesOut.{GivesOut}
use Rattle.swarm_model.proofs.Laws.Kept.{InOrder, IsPlaceOf, Keeps, Lightens, Runs, SameRoom, in-order-moves, lighten-closed, lighten-in_state, lighten-noted, lighten-raised, lighten-raised_to, lighten-same, lighten-wanted, node-keeps, order-of}
use Rattle.swarm_model.proofs.Moves.Duties.{attempt-moves, dropped-moves, live-most, order-moves, rejected-moves, shut-task}
use Rattle.swarm_model.proofs.Moves.Rows.{RisesBetween, becomes-change_any, becomes-change_at, becomes-filter, becomes-where, between-one}
use Rattle.swarm_model.proofs.Moves.Tables.{desired-most, move-where, rank-most}
use Rattle.swarm_model.proofs.Moves.Worlds.{IsGood, IsOrderly}
use Rattle.swarm_objects.proofs.RowLemmas.{Has-append_cases, Has-filter, Has-from_row_at, Has-map, Has-map_cases}
use Rattle.swarm_objects.proofs.Tests.{first_so, never-both, second_so}
use Rattle.swarm_objects.specs.Agents.Messages.{message_for}
use Rattle.swarm_objects.specs.Changes.{change_service, change_task, change_where, noted, on_service, on_task, placed, wanted}
use Rattle.swarm_objects.specs.Duties.{effect_by}
use Rattle.swarm_objects.specs.Loops.Agents.{after_pull, executor_at, reported_by}
use Rattle.swarm_objects.specs.Loops.Allocator.{exhausted_for, give_port, with_addresses, with_exhausted}
use Rattle.swarm_objects.specs.Loops.Dispatcher.{fallen}
use Rattle.swarm_objects.specs.Loops.Enforcer.{is_misplaced}
use Rattle.swarm_objects.specs.Loops.Reaper.{without_task}
use Rattle.swarm_objects.specs.Loops.Restart.{after_restart, by_policy, closed_by, new_attempt, next_task, raised, restarted, shut, wants_raise, wants_restart, with_attempt}
use Rattle.swarm_objects.specs.Loops.Scheduler.{is_to_drop}
use Rattle.swarm_objects.specs.Loops.Update.{by_order, change_run, fail_run, finished_status, in_status, item_of, live_of_place, may_roll_back, paused, paused_status, replace_place, replaced_in, with_item, with_run}
use Rattle.swarm_objects.specs.Nodes.Filters.{here}
use Rattle.swarm_objects.specs.Rows.{Has, agent_node, change_row, drop_row, executor_task, on_row, row_at, service_id, task_id}
use Rattle.swarm_objects.specs.Same.{same_place, same_template}
use Rattle.swarm_objects.specs.Services.Ports.{free_port}
use Rattle.swarm_objects.specs.Services.Words.{is_job, is_live_dirty}
use Rattle.swarm_objects.specs.Tasks.New.{goal_of, new_task}
use Rattle.swarm_objects.specs.Tasks.Places.{has_clean, has_other, is_dirty_place, is_held_place, is_in_place, newest, place_at, tasks_of_place}
use Rattle.swarm_objects.specs.Tasks.Policy.{no_restart}
use Rattle.swarm_objects.specs.Tasks.Words.{is_live}
use Rattle.swarm_objects.specs.World.{Tables, World}
use Rattle.swarm_objects.specs.declared.agents.Executor.{Executor}
use Rattle.swarm_objects.specs.declared.agents.NodeAgent.{NodeAgent}
use Rattle.swarm_objects.specs.declared.duties.Duty.TheVariants as duty
use Rattle.swarm_objects.specs.declared.duties.Duty.{Duty}
use Rattle.swarm_objects.specs.declared.messages.Message.{Message}
use Rattle.swarm_objects.specs.declared.nodes.Node.{Node}
use Rattle.swarm_objects.specs.declared.services.Replaced.{Replaced}
use Rattle.swarm_objects.specs.declared.services.RunStatus.{RunStatus}
use Rattle.swarm_objects.specs.declared.services.Service.{Service}
use Rattle.swarm_objects.specs.declared.services.ServiceSpec.{ServiceSpec}
use Rattle.swarm_objects.specs.declared.services.UpdateOrder.TheVariants as order
use Rattle.swarm_objects.specs.declared.services.UpdateOrder.{UpdateOrder}
use Rattle.swarm_objects.specs.declared.services.UpdateRun.{UpdateRun}
use Rattle.swarm_objects.specs.declared.tasks.Attempt.{Attempt}
use Rattle.swarm_objects.specs.declared.tasks.Closed.{Closed}
use Rattle.swarm_objects.specs.declared.tasks.Desired.TheVariants as desired
use Rattle.swarm_objects.specs.declared.tasks.Note.{Note}
use Rattle.swarm_objects.specs.declared.tasks.Place.{Place}
use Rattle.swarm_objects.specs.declared.tasks.Task.{Task}
use Rattle.swarm_objects.specs.declared.tasks.TaskState.TheVariants as state

-- Rows of duties.

found-row : {X : Type 0} (key : X → ℕ) (next id : ℕ) (rows : List X) (Fact : X → Type 0) →
    RisesBetween key 1 next rows →
    OfRow rows key id Fact → (x : X) → row_at key id rows ≡ Some x → Has rows x × (key x ≡ id) × Fact x
found-row key next id rows Fact rises of x e =
    let at = Has-from_row_at key id rows x e in
    let same = between-one key 1 next rows of.row x rises of.there at.0 (of.id_is ∙ sym at.1) in
    (at.0, at.1, subst Fact same of.fact)

service-keeps : (Q : Tables → Type 0) (t : Tables) (s : ℕ) (use_service : Service → Tables) (Fact : Service → Type 0) →
    InOrder t → Q t → OfRow t.services service_id s Fact →
    ((v : Service) → Has t.services v → Fact v → Q (use_service v)) → Q (on_service t s use_service)
service-keeps Q t s use_service Fact is q of each = go (row_at service_id s t.services) refl
  where
    go : (o : Option Service) → row_at service_id s t.services ≡ o → Q (on_row t use_service o)
    go None e = q
    go (Some v) e =
        let found = found-row service_id t.next_id s t.services Fact is.services of v e in
        each v found.0 found.2

-- the task of the duty, changed
task-keeps : (Q : Tables → Type 0) → Keeps Q → (t : Tables) (id : ℕ) (Fact : Task → Type 0) (f : Task → Task) →
    InOrder t → Q t →
    OfRow t.tasks task_id id Fact → ((x : Task) → Has t.tasks x → Fact x → Lightens t.clock x (f x)) → Q
    (change_task id f t)
task-keeps Q keeps t id Fact f is q of each =
    keeps.tasks t (change_row task_id id f t.tasks) is q
    (becomes-change_at (Lightens t.clock) task_id id f t.tasks (lighten-same t.clock) (λ y h e. one y h e))
  where
    one : (y : Task) → Has t.tasks y → task_id y ≡ id → Lightens t.clock y (f y)
    one y h e =
        let same = between-one task_id 1 t.next_id t.tasks of.row y is.tasks of.there h (of.id_is ∙ sym e) in
        subst (λ z. Lightens t.clock z (f z)) same (each of.row of.there of.fact)

-- each task that passes a test
where-keeps : (Q : Tables → Type 0) → Keeps Q → (t : Tables) (test : Task → Bool) (f : Task → Task) → InOrder t → Q t →
    ((x : Task) → Has t.tasks x → test x ≡ true → Lightens t.clock x (f x)) → Q (change_where test f t)
where-keeps Q keeps t test f is q each =
    keeps.tasks t (map (λ x. cond (test x) (f x) x) t.tasks) is q
    (becomes-where (Lightens t.clock) test f t.tasks (lighten-same t.clock) each)

-- whatever task has the number
pub any-keeps : (Q : Tables → Type 0) → Keeps Q → (t : Tables) (id : ℕ) (f : Task → Task) → InOrder t → Q t →
    ((x : Task) → Has t.tasks x → x.id ≡ id → Lightens t.clock x (f x)) → Q (change_task id f t)
any-keeps Q keeps t id f is q each =
    keeps.tasks t (change_row task_id id f t.tasks) is q
    (becomes-change_at (Lightens t.clock) task_id id f t.tasks (lighten-same t.clock) each)

drop-keeps : (Q : Tables → Type 0) → Keeps Q → (t : Tables) (id : ℕ) → InOrder t → Q t → Q (without_task id t)
drop-keeps Q keeps t id is q =
    keeps.tasks t (drop_row task_id id t.tasks) is q
    (becomes-filter (Lightens t.clock) (λ x. not (task_id x == id)) (lighten-same t.clock) t.tasks)

-- Runs.

pub runs-same : (clock : ℕ) (s : Service) → Runs clock s s
runs-same clock s = record {
  id = refl;
  spec = refl;
  previous = refl;
  iteration = refl;
  numbers = refl;
  run = λ r e i h. inl (r, e, h);
}

with-run : (clock version : ℕ) (run : UpdateRun) (s : Service) → run.replaced ≡ [] → Runs clock s
    (with_run version run s)
with-run clock version run s none = record {
  id = refl;
  spec = refl;
  previous = refl;
  iteration = refl;
  numbers = refl;
  run = λ r e i h.
      let is : run ≡ r = cc in
      let gone : Has run.replaced i = subst (λ (z : UpdateRun). Has z.replaced i) (sym is) h in
      absurd (subst (λ xs. Has xs i) none gone);
}

run-changed : (clock version : ℕ) (change : UpdateRun → UpdateRun) (s : Service) →
    ((q : UpdateRun) (i : Replaced) → Has (change q).replaced i → Has q.replaced i ⊎ (i.created ≡ clock)) →
    Runs clock s (change_run change version s)
run-changed clock version change s items = record {
  id = refl;
  spec = refl;
  previous = refl;
  iteration = refl;
  numbers = refl;
  run = λ r e i h. go s.run refl r e i h;
}
  where
    go : (o : Option UpdateRun) → s.run ≡ o → (r : UpdateRun) → option_map change o ≡ Some r → (i : Replaced) →
        Has r.replaced i →
        ((q : UpdateRun) × (s.run ≡ Some q) × Has q.replaced i) ⊎ (i.created ≡ clock)
    go None at r e i h = absurd cc
    go (Some q) at r e i h =
        let is : change q ≡ r = cc in
        elim (items q i (subst (λ (z : UpdateRun). Has z.replaced i) (sym is) h)) [
          | inl k ↦ inl (q, at, k)
          | inr now ↦ inr now
        ]

runs-keeps : (Q : Tables → Type 0) → Keeps Q → (t : Tables) (id : ℕ) (f : Service → Service) → InOrder t → Q t →
    ((s : Service) → Runs t.clock s (f s)) → Q (change_service id f t)
runs-keeps Q keeps t id f is q each =
    keeps.runs t (change_row service_id id f t.services) is q
    (becomes-change_any (Runs t.clock) service_id id f t.services (runs-same t.clock) (λ s h. each s))

with-item : (item : Replaced) (items : List Replaced) (i : Replaced) → Has (with_item item items) i →
    Has items i ⊎ (item ≡ i)
with-item item [] i (inl e) = inr e
with-item item [] i (inr k) = absurd k
with-item item (j ∷ items) i h = go (same_place j.place item.place) h (with-item item items i)
  where
    go : (b : Bool) → Has (cond b (item ∷ items) (j ∷ with_item item items)) i →
        (Has (with_item item items) i → Has items i ⊎ (item ≡ i)) → Has (j ∷ items) i ⊎ (item ≡ i)
    go true (inl e) rest = inr e
    go true (inr k) rest = inl (inr k)
    go false (inl e) rest = inl (inl e)
    go false (inr k) rest = elim (rest k) [ inl a ↦ inl (inr a) | inr b ↦ inr b ]

replaced-in : (clock version : ℕ) (item : Replaced) (s : Service) → item.created ≡ clock → Runs clock s
    (replaced_in version item s)
replaced-in clock version item s now =
    run-changed clock version (λ run. record run { replaced = with_item item run.replaced }) s
    (λ q i h. elim (with-item item q.replaced i h) [
      | inl k ↦ inl k
      | inr e ↦ inr (ap (λ (z : Replaced). z.created) (sym e) ∙ now)
    ])

in-status : (clock version : ℕ) (to : UpdateRun → RunStatus) (s : Service) →
    Runs clock s (change_run (λ run. in_status (to run) run) version s)
in-status clock version to s = run-changed clock version (λ run. in_status (to run) run) s (λ q i h. inl h)

-- Restarts.

shut-live : (version : ℕ) (x : Task) → IsGood x → is_live (wanted version desired.Shutdown x) ≡ false
shut-live version x good = grind (arith, nat_tests, good.goal)

-- what is left of the place, once the task is to stop
shut-alone : (version : ℕ) (t : Tables) (x : Task) (s : Service) → InOrder t → has_other t s x ≡ false → (y : Task) →
    Has (change_row task_id x.id (wanted version desired.Shutdown) t.tasks) y → is_in_place s x.place y ≡ true →
    is_live y ≡ true → same_template y.template s.spec.template ≡ false
shut-alone version t x s is none y h there live =
    let from = Has-map_cases (λ z. cond (eqb (task_id z) x.id) (wanted version desired.Shutdown z) z) t.tasks y h in
    go from.0 from.1 (eqb (task_id from.0) x.id) refl from.2
  where
    go : (z : Task) → Has t.tasks z → (b : Bool) → eqb (task_id z) x.id ≡ b →
        cond b (wanted version desired.Shutdown z) z ≡ y → same_template y.template s.spec.template ≡ false
    go z k true e same =
        never-both (is_live (wanted version desired.Shutdown z)) (shut-live version z (is.good z k))
        (ap is_live same ∙ live)
    go z k false e same =
        let z_there : is_in_place s x.place z ≡ true = ap (is_in_place s x.place) same ∙ there in
        let z_live : is_live z ≡ true = ap is_live same ∙ live in
        let passed =
        none-of-any (λ v. is_live v && not (v.id == x.id)) (tasks_of_place s x.place t.tasks) none z
        (Has-filter (is_in_place s x.place) t.tasks z k z_there) in
        let other : (is_live z && not (z.id == x.id)) ≡ true = ap (λ (b : Bool). b && not
        (z.id == x.id)) z_live ∙ ap not e in
        never-both (is_live z && not (z.id == x.id)) passed other

newest-is : (Q : Tables → Type 0) → Keeps Q → (version : ℕ) (t : Tables) (cause : Closed) (o : Option Task) →
    InOrder t → Q t →
    Q (on_row t (λ y. change_task y.id (closed_by version cause) t) o)
newest-is Q keeps version t cause None is q = q
newest-is Q keeps version t cause (Some y) is q =
    any-keeps Q keeps t y.id (closed_by version cause) is q (λ x h e. lighten-closed t.clock version cause x)

policy-keeps : (Q : Tables → Type 0) → Keeps Q → (version : ℕ) (t : Tables) (s : Service) (p : Place)
    (why : Option Closed) →
    InOrder t → Q t → Has t.services s → IsPlaceOf t s p →
    ((y : Task) → Has t.tasks y → is_in_place s p y ≡ true → is_live y ≡ true →
    same_template y.template s.spec.template ≡ false) →
    Q (by_policy version t s p why)
policy-keeps Q keeps version t s p None is q there place alone =
    let tried = with_attempt t s p in
    keeps.comes tried s (next_task version t s p) (in-order-moves t tried is (attempt-moves t s p))
    (keeps.attempts t (t.attempts ++ new_attempt t s p ∷ []) q (λ a h. go a
    (Has-append_cases t.attempts (new_attempt t s p ∷ []) a h)))
    there (next-alone version tried s p place alone)
  where
    go : (a : Attempt) → Has t.attempts a ⊎ Has (new_attempt t s p ∷ []) a → Has t.attempts a ⊎ (a.at ≡ t.clock)
    go a (inl k) = inl k
    go a (inr (inl e)) = inr (ap (λ (z : Attempt). z.at) (sym e))
    go a (inr (inr k)) = absurd k
policy-keeps Q keeps version t s p (Some cause) is q there place alone =
    newest-is Q keeps version t cause (newest (tasks_of_place s p t.tasks)) is q

restarted-keeps : (Q : Tables → Type 0) → Keeps Q → (version : ℕ) (t : Tables) (x : Task) (s : Service) → InOrder t →
    Q t →
    Has t.tasks x → is_live x ≡ true → Has t.services s → x.service ≡ s.id → Q (restarted version t x s)
restarted-keeps Q keeps version t x s is q there live of in_service = go (has_other t s x) refl
  where
    shut-keeps : Q (shut version x.id t)
    shut-keeps =
        any-keeps Q keeps t x.id (wanted version desired.Shutdown) is q
        (λ y h e.
        let same : x ≡ y = between-one task_id 1 t.next_id t.tasks x y is.tasks there h (sym e) in
        subst (λ (z : Task). Lightens t.clock z (wanted version desired.Shutdown z)) same
        (lighten-wanted t.clock version desired.Shutdown x (live-most x (is.good x there) live)))

    shut-there : Has (shut version x.id t).tasks (wanted version desired.Shutdown x)
    shut-there =
        let same : eqb (task_id x) x.id ≡ true = grind (arith, nat_tests) in
        let changed : cond (eqb (task_id x) x.id)
        (wanted version desired.Shutdown x) x ≡ wanted version desired.Shutdown x =
        ap (λ (b : Bool). cond b (wanted version desired.Shutdown x) x) same in
        subst (Has (shut version x.id t).tasks) changed
        (Has-map (λ z. cond (eqb (task_id z) x.id) (wanted version desired.Shutdown z) z) t.tasks x there)

    go : (b : Bool) → has_other t s x ≡ b →
        Q (cond b (shut version x.id t) (by_policy version (shut version x.id t) s x.place (no_restart t s x)))
    go true e = shut-keeps
    go false e =
        policy-keeps Q keeps version (shut version x.id t) s x.place (no_restart t s x)
        (in-order-moves t (shut version x.id t) is (shut-task version t x is.tasks there (is.good x there) live))
        shut-keeps of (inr (wanted version desired.Shutdown x, shut-there, in_service, refl))
        (shut-alone version t x s is e)

restart-keeps : (Q : Tables → Type 0) → Keeps Q → (version : ℕ) (t : Tables) (id : ℕ) → InOrder t → Q t →
    OfRow t.tasks task_id id (λ x. wants_restart t x ≡ true) → Q (after_restart version t id)
restart-keeps Q keeps version t id is q of = go (row_at task_id id t.tasks) refl
  where
    by_service : (x : Task) → Has t.tasks x → is_live x ≡ true → (o : Option Service) →
        row_at service_id x.service t.services ≡ o →
        Q (on_row t (restarted version t x) o)
    by_service x there live None e = q
    by_service x there live (Some s) e =
        let at = Has-from_row_at service_id x.service t.services s e in
        restarted-keeps Q keeps version t x s is q there live at.0 (sym at.1)

    go : (o : Option Task) → row_at task_id id t.tasks ≡ o →
        Q (on_row t (λ x. on_service t x.service (restarted version t x)) o)
    go None e = q
    go (Some x) e =
        let found = found-row task_id t.next_id id t.tasks (λ y. wants_restart t y ≡ true) is.tasks of x e in
        by_service x found.0 (first_so (is_live x) _ (first_so _ _ found.2))
        (row_at service_id x.service t.services) refl

-- Updates.

-- what is left of the place, once its live tasks are to stop
stopped-alone : (version : ℕ) (t : Tables) (s : Service) (k : ℕ) → InOrder t → (y : Task) →
    Has (map (λ x. cond (live_of_place s k x) (wanted version desired.Shutdown x) x) t.tasks) y →
    is_in_place s (place_at s.spec.mode k) y ≡ true → is_live y ≡ true →
    same_template y.template s.spec.template ≡ false
stopped-alone version t s k is y h there live =
    let from = Has-map_cases (λ x. cond (live_of_place s k x) (wanted version desired.Shutdown x) x) t.tasks y h in
    go from.0 from.1 (live_of_place s k from.0) refl from.2
  where
    go : (z : Task) → Has t.tasks z → (b : Bool) → live_of_place s k z ≡ b →
        cond b (wanted version desired.Shutdown z) z ≡ y → same_template y.template s.spec.template ≡ false
    go z j true e same =
        never-both (is_live (wanted version desired.Shutdown z)) (shut-live version z (is.good z j))
        (ap is_live same ∙ live)
    go z j false e same =
        let z_there : is_in_place s (place_at s.spec.mode k) z ≡ true = ap
        (is_in_place s (place_at s.spec.mode k)) same ∙ there in
        let z_live : is_live z ≡ true = ap is_live same ∙ live in
        never-both (live_of_place s k z) e (ap (λ (b : Bool). b && is_live z) z_there ∙ z_live)

order-keeps : (Q : Tables → Type 0) → Keeps Q → (version : ℕ) (t : Tables) (s : Service) (k : ℕ) (o : UpdateOrder) →
    InOrder t → Q t →
    Has t.services s → is_job s.spec.mode ≡ false → has_clean t s k ≡ false → Q (by_order version t s k o)
order-keeps Q keeps version t s k order.StopFirst is q there no_job none =
    let stopped = change_where (live_of_place s k) (wanted version desired.Shutdown) t in
    let lighter : (x : Task) → Has t.tasks x → live_of_place s k x ≡ true → Lightens t.clock x
    (wanted version desired.Shutdown x) =
    (λ x h e. lighten-wanted t.clock version desired.Shutdown x (live-most x (is.good x h)
    (second_so _ (is_live x) e))) in
    keeps.comes stopped s (new_task version stopped s (place_at s.spec.mode k) desired.Ready)
    (in-order-moves t stopped is (move-where t (live_of_place s k) (wanted version desired.Shutdown)
    (λ x h e. (lighter x h e).moves)))
    (where-keeps Q keeps t (live_of_place s k) (wanted version desired.Shutdown) is q lighter) there
    (new-alone version stopped s k desired.Ready (stopped-alone version t s k is))
order-keeps Q keeps version t s k order.StartFirst is q there no_job none =
    keeps.comes t s (new_task version t s (place_at s.spec.mode k) (goal_of s.spec.mode)) is q there
    (dirty-new version t s k (goal_of s.spec.mode) no_job none)

by-order-clock : (version : ℕ) (t : Tables) (s : Service) (k : ℕ) (o : UpdateOrder) →
    (by_order version t s k o).clock ≡ t.clock
by-order-clock version t s k order.StopFirst = refl
by-order-clock version t s k order.StartFirst = refl

replace-keeps : (Q : Tables → Type 0) → Keeps Q → (version : ℕ) (t : Tables) (k : ℕ) (s : Service) → InOrder t → Q t →
    Has t.services s → is_job s.spec.mode ≡ false → has_clean t s k ≡ false → Q (replace_place version t k s)
replace-keeps Q keeps version t k s is q there no_job none =
    let next = by_order version t s k s.spec.update.order in
    runs-keeps Q keeps next s.id (replaced_in version (item_of t (place_at s.spec.mode k)))
    (in-order-moves t next is (order-moves version t s k s.spec.update.order is.good))
    (order-keeps Q keeps version t s k s.spec.update.order is q there no_job none)
    (λ v. replaced-in next.clock version (item_of t (place_at s.spec.mode k)) v
    (sym (by-order-clock version t s k s.spec.update.order)))

paused-keeps : (Q : Tables → Type 0) → Keeps Q → (version : ℕ) (t : Tables) (s : Service) → InOrder t → Q t → Q
    (paused version t s)
paused-keeps Q keeps version t s is q =
    runs-keeps Q keeps t s.id _ is q (λ v. in-status t.clock version (λ run. paused_status run.status) v)

fail-keeps : (Q : Tables → Type 0) → Keeps Q → (version : ℕ) (t : Tables) (s : Service) (back : Bool)
    (spec : Option ServiceSpec) →
    InOrder t → Q t → Has t.services s → s.previous ≡ spec → Q (fail_run version t s back spec)
fail-keeps Q keeps version t s true (Some spec) is q there e = keeps.fails version t s spec is q there e
fail-keeps Q keeps version t s true None is q there e = paused-keeps Q keeps version t s is q
fail-keeps Q keeps version t s false spec is q there e = paused-keeps Q keeps version t s is q

-- Ports, notes and reports.

port-keeps : (Q : Tables → Type 0) → Keeps Q → (version : ℕ) (t : Tables) (s target : ℕ) (udp : Bool)
    (number : Option ℕ) →
    InOrder t → Q t → free_port t udp ≡ number → Q (give_port version t s target udp number)
port-keeps Q keeps version t s target udp None is q e = q
port-keeps Q keeps version t s target udp (Some number) is q e = keeps.port version t s target udp number is q e

note-keeps : (Q : Tables → Type 0) → Keeps Q → (version : ℕ) (t : Tables) (id : ℕ) → InOrder t → Q t →
    Q (on_task t id (with_exhausted version t))
note-keeps Q keeps version t id is q = go (row_at task_id id t.tasks)
  where
    with_note : (x : Task) (o : Option Note) → Q (on_row t (λ n. change_task x.id (noted version n) t) o)
    with_note x None = q
    with_note x (Some n) = any-keeps Q keeps t x.id _ is q (λ y h e. lighten-noted t.clock version n y)

    go : (o : Option Task) → Q (on_row t (with_exhausted version t) o)
    go None = q
    go (Some x) = with_note x (exhausted_for t x)

executor-has : (w : World) (node task : ℕ) (e : Executor) → executor_at w node task ≡ Some e →
    (a : NodeAgent) × Has w.agents a × Has a.executors e
executor-has w node task e at = go (row_at agent_node node w.agents) refl at
  where
    go : (o : Option NodeAgent) → row_at agent_node node w.agents ≡ o →
        on_row None (λ a. row_at executor_task task a.executors) o ≡ Some e →
        (a : NodeAgent) × Has w.agents a × Has a.executors e
    go None here k = absurd cc
    go (Some a) here k =
        (a, (Has-from_row_at agent_node node w.agents a here).0, (Has-from_row_at executor_task task a.executors e k).0)

report-keeps : (Q : Tables → Type 0) → Keeps Q → (version : ℕ) (w : World) (node task : ℕ) (o : Option Executor) →
    InOrder w.tables →
    GivesOut w → Q w.tables → executor_at w node task ≡ o → Q (reported_by version w o)
report-keeps Q keeps version w node task None is gives q at = q
report-keeps Q keeps version w node task (Some e) is gives q at =
    let has = executor-has w node task e at in
    let given = (gives.agents has.0 has.1).executors.given e has.2 in
    any-keeps Q keeps w.tables e.task _ is q
    (λ x h same. lighten-raised_to version w.tables.clock e.state x (given.there x h same).1)

-- Nodes.

fallen-room : (version clock : ℕ) (n : Node) → SameRoom clock n (fallen version clock n)
fallen-room version clock n = record { id = refl; cpu = refl; mem = refl; down_since = inr refl }

-- Any duty.

pub duty-keeps : (Q : Tables → Type 0) → Keeps Q → (version : ℕ) (w : World) (d : Duty) → IsOrderly w → GivesOut w →
    IsDuty w d →
    Q w.tables → Q (effect_by version w d).tables
duty-keeps Q keeps version w (duty.Expire n) is gives of q =
    node-keeps Q keeps w.tables n (fallen version w.tables.clock) (order-of w is) q
    (λ m h e. fallen-room version w.tables.clock m)
duty-keeps Q keeps version w (duty.Orphan x) is gives of q =
    any-keeps Q keeps w.tables x _ (order-of w is) q
    (λ y h e. lighten-in_state version w.tables.clock state.Orphaned y (rank-most y.state) (λ p. absurd cc))
duty-keeps Q keeps version w (duty.Reject x) is gives of q =
    task-keeps Q keeps w.tables x (λ y. is_misplaced w.tables y ≡ true) _ (order-of w is) q of
    (λ y h e. lighten-in_state version w.tables.clock state.Rejected y
    (rejected-moves version w.tables y e).rises.state (λ p. absurd cc))
duty-keeps Q keeps version w (duty.Restart x) is gives of q = restart-keeps Q keeps version w.tables x
    (order-of w is) q of
duty-keeps Q keeps version w (duty.Raise x) is gives of q =
    task-keeps Q keeps w.tables x (λ y. wants_raise w.tables y ≡ true) (raised version) (order-of w is) q of
    (λ y h e. lighten-raised version w.tables y e)
duty-keeps Q keeps version w (duty.Start s) is gives of q =
    service-keeps Q w.tables s _ _ (order-of w is) q of
    (λ v h fact. runs-keeps Q keeps w.tables v.id _ (order-of w is) q
    (λ u. with-run w.tables.clock version _ u refl))
duty-keeps Q keeps version w (duty.Fail s) is gives of q =
    service-keeps Q w.tables s _ _ (order-of w is) q of
    (λ v h fact. fail-keeps Q keeps version w.tables v (may_roll_back v) v.previous (order-of w is) q h refl)
duty-keeps Q keeps version w (duty.Swap s k) is gives of q =
    service-keeps Q w.tables s _ _ (order-of w is) q of
    (λ v h fact. where-keeps Q keeps w.tables _ (wanted version desired.Shutdown) (order-of w is) q
    (λ x there e. lighten-wanted w.tables.clock version desired.Shutdown x
    (live-most x (is.good x there) (first_so (is_live x) _ (second_so _ (is_live_dirty v x) e)))))
duty-keeps Q keeps version w (duty.Replace s k) is gives of q =
    service-keeps Q w.tables s _ _ (order-of w is) q of
    (λ v h fact. replace-keeps Q keeps version w.tables k v (order-of w is) q h fact.0
    (none-clean (has_clean w.tables v k) (is_dirty_place w.tables v k) (fact.1.3.1.1)))
  where
    none-clean : (clean dirty : Bool) → (dirty && not clean) ≡ true → clean ≡ false
    none-clean true true e = absurd cc
    none-clean true false e = absurd cc
    none-clean false dirty e = refl
duty-keeps Q keeps version w (duty.Finish s) is gives of q =
    service-keeps Q w.tables s _ _ (order-of w is) q of
    (λ v h fact. runs-keeps Q keeps w.tables v.id _ (order-of w is) q
    (λ u. in-status w.tables.clock version (λ run. finished_status run.status) u))
duty-keeps Q keeps version w (duty.Gone x) is gives of q =
    any-keeps Q keeps w.tables x _ (order-of w is) q
    (λ y h e. lighten-wanted w.tables.clock version desired.Remove y (desired-most y.desired))
duty-keeps Q keeps version w (duty.Down s k) is gives of q =
    service-keeps Q w.tables s _ _ (order-of w is) q of
    (λ v h fact. where-keeps Q keeps w.tables _ (wanted version desired.Remove) (order-of w is) q
    (λ x there e. lighten-wanted w.tables.clock version desired.Remove x (desired-most x.desired)))
duty-keeps Q keeps version w (duty.ReplicatedCreate s k) is gives of q =
    service-keeps Q w.tables s _ _ (order-of w is) q of
    (λ v h fact. keeps.comes w.tables v _ (order-of w is) q h (gap-new version w.tables v 1 k desired.Running fact.3))
duty-keeps Q keeps version w (duty.Leave s n) is gives of q =
    service-keeps Q w.tables s _ _ (order-of w is) q of
    (λ v h fact. where-keeps Q keeps w.tables _ (wanted version desired.Remove) (order-of w is) q
    (λ x there e. lighten-wanted w.tables.clock version desired.Remove x (desired-most x.desired)))
duty-keeps Q keeps version w (duty.GlobalCreate s n) is gives of q =
    service-keeps Q w.tables s _ _ (order-of w is) q of
    (λ v h fact. keeps.comes w.tables v _ (order-of w is) q h
    (unheld-new version w.tables v n desired.Running
    (subst (λ (k : ℕ). is_held_place w.tables v k ≡ false) fact.1.id_is
    (unheld (is_held_place w.tables v fact.1.row.id) _ fact.1.fact))))
  where
    unheld : (held wants : Bool) → (wants && not held) ≡ true → held ≡ false
    unheld true true e = absurd cc
    unheld true false e = absurd cc
    unheld false wants e = refl
duty-keeps Q keeps version w (duty.Old x) is gives of q =
    any-keeps Q keeps w.tables x _ (order-of w is) q
    (λ y h e. lighten-wanted w.tables.clock version desired.Remove y (desired-most y.desired))
duty-keeps Q keeps version w (duty.JobCreate s k) is gives of q =
    service-keeps Q w.tables s _ _ (order-of w is) q of
    (λ v h fact. keeps.comes w.tables v _ (order-of w is) q h (gap-new version w.tables v 0 k desired.Complete fact.6))
duty-keeps Q keeps version w (duty.Port s target udp) is gives of q =
    port-keeps Q keeps version w.tables s target udp (free_port w.tables udp) (order-of w is) q refl
duty-keeps Q keeps version w (duty.Address x) is gives of q =
    subst (λ (k : ℕ). Q (change_task k (with_addresses version w.tables) w.tables)) of.id_is
    (keeps.address version w.tables of.row (order-of w is) q of.there of.fact)
duty-keeps Q keeps version w (duty.Note x) is gives of q = note-keeps Q keeps version w.tables x (order-of w is) q
duty-keeps Q keeps version w (duty.Drop x) is gives of q =
    task-keeps Q keeps w.tables x (λ y. is_to_drop y ≡ true) _ (order-of w is) q of
    (λ y h e. lighten-in_state version w.tables.clock state.Shutdown y
    (dropped-moves version w.tables.clock y e).rises.state (λ p. absurd cc))
duty-keeps Q keeps version w (duty.Place x n) is gives of q =
    subst (λ (k : ℕ). Q (change_task k (placed version w.tables.clock n) w.tables)) of.id_is
    (subst (λ (m : ℕ). Q (change_task of.row.id (placed version w.tables.clock m) w.tables)) of.fact.3
    (keeps.place version w.tables of.row of.fact.1 (order-of w is) q of.there of.fact.0 of.fact.2))
duty-keeps Q keeps version w (duty.Explain x) is gives of q =
    any-keeps Q keeps w.tables x _ (order-of w is) q (λ y h e. lighten-noted w.tables.clock version _ y)
duty-keeps Q keeps version w (duty.Delete x) is gives of q = drop-keeps Q keeps w.tables x (order-of w is) q
duty-keeps Q keeps version w (duty.Trim x) is gives of q = drop-keeps Q keeps w.tables x (order-of w is) q
duty-keeps Q keeps version w (duty.Register n) is gives of q = keeps.registers version w.tables n (order-of w is) q
duty-keeps Q keeps version w (duty.Beat n) is gives of q = keeps.beats w.tables n q
duty-keeps Q keeps version w (duty.Apply n) is gives of q = q
duty-keeps Q keeps version w (duty.Pull n) is gives of q = pulled (message_for w n)
  where
    pulled : (m : Option Message) → Q (after_pull w n m).tables
    pulled None = q
    pulled (Some m) = q
duty-keeps Q keeps version w (duty.Exec n x) is gives of q = q
duty-keeps Q keeps version w (duty.Report n x) is gives of q =
    report-keeps Q keeps version w n x (executor_at w n x) (order-of w is) gives q refl
duty-keeps Q keeps version w (duty.Forget n x) is gives of q = q
