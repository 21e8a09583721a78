-- What a restart does, case by case.
use Rattle.std.proofs.Common.{◌≡◌, ℕ, ◌+◌, ◌<◌, ◌^◌, Bool, true, false, cond, drop, take, length, suc, List, [], ◌∷◌, ◌++◌, Option, Some, None, Result, Ok, Err, refl, sym, ap, ◌∙◌, arith}
use Rattle.std.specs.Prelude.{◌&&◌}
use Rattle.std.specs.Result.{OnOk}
use Rattle.std.proofs.lemmas.Bool.Decides.{nat_tests}
use Rattle.swarm_objects.proofs.RowLemmas.{Has-from_row_at, instead_is}
use Rattle.swarm_objects.proofs.Tests.{first_so, of-all, second_so}
use Rattle.swarm_objects.specs.Bounds.{IsSmall, is_near, is_near_run, is_near_service, is_near_spec, is_near_template, is_near_workload}
use Rattle.swarm_objects.specs.Changes.{change_task, on_service, with_tables}
use Rattle.swarm_objects.specs.Loops.Restart.{after_restart, by_policy, closed_by, new_attempt, next_task, restarted, shut, with_attempt}
use Rattle.swarm_objects.specs.Rows.{change_row, on_row, row_at, service_id, task_id}
use Rattle.swarm_objects.specs.Tasks.New.{with_task}
use Rattle.swarm_objects.specs.Tasks.Places.{has_other, newest, tasks_of_place}
use Rattle.swarm_objects.specs.Tasks.Policy.{no_restart}
use Rattle.swarm_objects.specs.World.{Tables, World}
use Rattle.swarm_objects.specs.declared.services.Service.{Service}
use Rattle.swarm_objects.specs.declared.names.NoMemory.{NoMemory}
use Rattle.swarm_objects.specs.declared.tasks.Attempt.{Attempt}
use Rattle.swarm_objects.specs.declared.tasks.Closed.{Closed}
use Rattle.swarm_objects.specs.declared.tasks.Task.{Task}

-- Lists.

first : {X : Type 0} (xs ys : List X) → take (length xs) (xs ++ ys) ≡ xs
first [] ys = refl
first (x ∷ xs) ys = ap (λ zs. x ∷ zs) (first xs ys)

behind : {X : Type 0} (xs ys : List X) → drop (length xs) (xs ++ ys) ≡ ys
behind [] ys = refl
behind (x ∷ xs) ys = behind xs ys

as-long : (id : ℕ) (g : Task → Task) (xs ys : List Task) → length (change_row task_id id g xs ++ ys) ≡ length (xs ++ ys)
as-long id g [] ys = refl
as-long id g (x ∷ xs) ys = ap suc (as-long id g xs ys)

-- its task and its service are there
restarts : (version id : ℕ) (t : Tables) (x : Task) (s : Service) → row_at task_id id t.tasks ≡ Some x →
    row_at service_id x.service t.services ≡ Some s → after_restart version t id ≡ restarted version t x s
restarts version id t x s task service =
    ap (on_row t (λ (y : Task). on_service t y.service (restarted version t y))) task
    ∙ ap (on_row t (restarted version t x)) service

-- the task of the row is this one
shut-is : (version id : ℕ) (t : Tables) (x : Task) → row_at task_id id t.tasks ≡ Some x →
    shut version x.id t ≡ shut version id t
shut-is version id t x task = ap (λ (k : ℕ). shut version k t) (Has-from_row_at task_id id t.tasks x task).1

-- another live task is in the place
pub stops : (version id : ℕ) (t : Tables) (x : Task) (s : Service) → row_at task_id id t.tasks ≡ Some x →
    row_at service_id x.service t.services ≡ Some s → has_other t s x ≡ true →
    after_restart version t id ≡ shut version id t
stops version id t x s task service other =
    restarts version id t x s task service
    ∙ ap (λ (b : Bool). cond b (shut version x.id t)
    (by_policy version (shut version x.id t) s x.place (no_restart t s x))) other
    ∙ shut-is version id t x task

-- none is, and the policy says whether there is a cause
by_cause : (version id : ℕ) (t : Tables) (x : Task) (s : Service) (cause : Option Closed) →
    row_at task_id id t.tasks ≡ Some x → row_at service_id x.service t.services ≡ Some s → has_other t s x ≡ false →
    no_restart t s x ≡ cause → after_restart version t id ≡ by_policy version (shut version id t) s x.place cause
by_cause version id t x s cause task service other policy =
    restarts version id t x s task service
    ∙ ap (λ (b : Bool). cond b (shut version x.id t)
    (by_policy version (shut version x.id t) s x.place (no_restart t s x))) other
    ∙ ap (λ (u : Tables). by_policy version u s x.place (no_restart t s x)) (shut-is version id t x task)
    ∙ ap (by_policy version (shut version id t) s x.place) policy

-- the newest task of the place gets the cause, after the task is told to stop
pub closes : (w : World) (version id : ℕ) (x : Task) (s : Service) (cause : Closed) (stopped after : World) →
    row_at task_id id w.tables.tasks ≡ Some x → row_at service_id x.service w.tables.services ≡ Some s →
    has_other w.tables s x ≡ false → no_restart w.tables s x ≡ Some cause →
    stopped ≡ with_tables w (shut version id w.tables) →
    after ≡ with_tables stopped (on_service stopped.tables x.service (λ (v : Service).
    on_row stopped.tables (λ (y : Task). change_task y.id (closed_by version cause) stopped.tables)
    (newest (tasks_of_place v x.place stopped.tables.tasks)))) →
    after ≡ with_tables w (after_restart version w.tables id)
closes w version id x s cause stopped after task service other policy stop close =
    let u = shut version id w.tables in
    let closing = λ (v : World). with_tables v (on_service v.tables x.service (λ (r : Service).
    on_row v.tables (λ (y : Task). change_task y.id (closed_by version cause) v.tables)
    (newest (tasks_of_place r x.place v.tables.tasks)))) in
    let found = λ (o : Option Service). with_tables w (on_row u (λ (r : Service).
    on_row u (λ (y : Task). change_task y.id (closed_by version cause) u)
    (newest (tasks_of_place r x.place u.tasks))) o) in
    close
    ∙ ap closing stop
    ∙ ap found service
    ∙ ap (with_tables w) (sym (by_cause version id w.tables x s (Some cause) task service other policy))

-- a new task comes, by an attempt that is made now
pub again : (w : World) (version id : ℕ) (x : Task) (s : Service) (attempt : Attempt) (next : Task)
    (result : Result Unit NoMemory) (after : World) →
    row_at task_id id w.tables.tasks ≡ Some x → row_at service_id x.service w.tables.services ≡ Some s →
    has_other w.tables s x ≡ false → no_restart w.tables s x ≡ None → attempt ≡ new_attempt w.tables s x.place →
    next ≡ next_task version w.tables s x.place →
    OnOk result (after ≡ with_tables w
    (with_task (record (shut version id w.tables) { attempts = w.tables.attempts ++ attempt ∷ [] }) next)) →
    OnOk result (after ≡ with_tables w (after_restart version w.tables id))
again w version id x s attempt next (Ok u) after task service other policy made new given =
    given
    ∙ ap (λ (a : Attempt). with_tables w
    (with_task (record (shut version id w.tables) { attempts = w.tables.attempts ++ a ∷ [] }) next)) made
    ∙ ap (λ (y : Task). with_tables w (with_task (with_attempt (shut version id w.tables) s x.place) y)) new
    ∙ ap (with_tables w) (sym (by_cause version id w.tables x s None task service other policy))
again w version id x s attempt next (Err fault) after task service other policy made new given = tt

-- one row among the first ones is changed, and one more is behind them
pub changed_before : (id : ℕ) (g : Task → Task) (old new given : List Task) (x : Task) (count : ℕ) →
    new ≡ old ++ x ∷ [] → count ≡ length old → given ≡ change_row task_id id g (take count new) ++ drop count new →
    take (length new) (given ++ drop (length given) new) ≡ change_row task_id id g old ++ x ∷ []
changed_before id g old new given x count more same change =
    let whole : given ≡ change_row task_id id g old ++ x ∷ [] =
    change
    ∙ ap (λ (n : ℕ). change_row task_id id g (take n new) ++ drop n new) same
    ∙ ap (λ (ys : List Task). change_row task_id id g (take (length old) ys) ++ drop (length old) ys) more
    ∙ ap (λ (ys : List Task). change_row task_id id g ys ++ drop (length old) (old ++ x ∷ [])) (first old (x ∷ []))
    ∙ ap (λ (ys : List Task). change_row task_id id g old ++ ys) (behind old (x ∷ [])) in
    let long : length given ≡ length new =
    ap length whole ∙ as-long id g old (x ∷ []) ∙ sym (ap length more) in
    instead_is new given long ∙ whole

-- Times.

near-delay : (s : Service) → is_near_service s ≡ true → is_near s.spec.template.restart.delay ≡ true
near-delay s near =
    let template = s.spec.template in
    second_so (is_near_workload template.workload) (is_near template.restart.delay)
    (first_so (is_near_workload template.workload && is_near template.restart.delay) (is_near template.restart.window)
    (first_so (is_near_template template) (is_near s.spec.update.delay)
    (first_so (is_near_template template && is_near s.spec.update.delay) (is_near s.spec.update.monitor)
    (first_so (is_near_spec s.spec) (on_row true is_near_spec s.previous)
    (first_so (is_near_spec s.spec && on_row true is_near_spec s.previous) (on_row true is_near_run s.run) near)))))

-- the time at which the next task starts fits
pub delay_fits : (w : World) (id : ℕ) (s : Service) → IsSmall w → row_at service_id id w.tables.services ≡ Some s →
    w.tables.clock + s.spec.template.restart.delay < 2 ^ 64
delay_fits w id s small service =
    let near : is_near s.spec.template.restart.delay ≡ true =
    near-delay s
    (of-all is_near_service w.tables.services s small.times.services
    (Has-from_row_at service_id id w.tables.services s service).0) in
    let lt : s.spec.template.restart.delay < 2 ^ 60 = grind (arith, nat_tests) in
    omega (arith, lt, small.clock)
