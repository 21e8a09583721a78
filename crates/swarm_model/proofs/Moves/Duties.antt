-- What each duty does to the world: a move.
use Rattle.std.proofs.Common.{inl, ◌≡◌, ℕ, ◌≤◌, Bool, true, false, cond, refl, sym, ◌∙◌, subst, arith, Option, Some, None}
use Rattle.std.specs.Prelude.{◌&&◌, nat_le}
use Rattle.std.proofs.lemmas.Bool.Decides.{nat_tests}
use Rattle.swarm_model.proofs.Base.IsDuty.{OfRow}
use Rattle.swarm_model.proofs.Moves.Rows.{RisesBetween, between-one, rows-stay}
use Rattle.swarm_model.proofs.Moves.Tables.{desired-least, good-new, move-add, move-any_task, move-new, move-on_service, move-service, move-task, move-where, moves-by, moves-in_state, moves-wanted}
use Rattle.swarm_model.proofs.Moves.Worlds.{networks-stay, IsGood, TablesMove, TaskMoves, sessions-same, tables-same, tables-then, turns-ids}
use Rattle.swarm_objects.proofs.RowLemmas.{Has-from_row_at}
use Rattle.swarm_objects.proofs.Tests.{first_so, second_so}
use Rattle.swarm_objects.specs.Changes.{change_task, change_where, in_state, noted, on_service, wanted}
use Rattle.swarm_objects.specs.Loops.Allocator.{gets_address, with_addresses}
use Rattle.swarm_objects.specs.Loops.Enforcer.{is_misplaced}
use Rattle.swarm_objects.specs.Loops.Restart.{after_restart, by_policy, closed_by, next_task, raised, restarted, shut, wants_raise, wants_restart, with_attempt}
use Rattle.swarm_objects.specs.Loops.Scheduler.{is_to_drop}
use Rattle.swarm_objects.specs.Loops.Update.{by_order, fail_run, item_of, live_of_place, paused, replace_place, replaced_in, swap_place}
use Rattle.swarm_objects.specs.Rows.{Has, on_row, row_at, session_node, task_id}
use Rattle.swarm_objects.specs.Services.Words.{is_live_dirty}
use Rattle.swarm_objects.specs.Tasks.Places.{has_other, is_in_place, newest, place_at, tasks_of_place}
use Rattle.swarm_objects.specs.Tasks.Policy.{no_restart}
use Rattle.swarm_objects.specs.Tasks.Words.{is_below_assigned, is_live, is_new, is_placed, is_to_wait}
use Rattle.swarm_objects.specs.Values.Ranks.{desired_rank, rank}
use Rattle.swarm_objects.specs.World.{Tables}
use Rattle.swarm_objects.specs.declared.services.Service.{Service}
use Rattle.swarm_objects.specs.declared.services.ServiceSpec.{ServiceSpec}
use Rattle.swarm_objects.specs.declared.services.UpdateOrder.{UpdateOrder}
use Rattle.swarm_objects.specs.declared.services.UpdateOrder.TheVariants as order
use Rattle.swarm_objects.specs.declared.tasks.Closed.{Closed}
use Rattle.swarm_objects.specs.declared.tasks.Desired.TheVariants as desired
use Rattle.swarm_objects.specs.declared.tasks.Note.{Note}
use Rattle.swarm_objects.specs.declared.tasks.Place.{Place}
use Rattle.swarm_objects.specs.declared.tasks.Task.{Task}
use Rattle.swarm_objects.specs.declared.tasks.TaskState.{TaskState}
use Rattle.swarm_objects.specs.declared.tasks.TaskState.TheVariants as state

-- Tests.

pub placed-most : (x : Task) → is_placed x ≡ true → rank x.state ≤ rank state.Running
placed-most x is =
    grind (
      arith,
      nat_tests,
      second_so (nat_le (rank state.Assigned) (rank x.state)) (nat_le (rank x.state) (rank state.Running)) is,
    )

pub live-most : (x : Task) → IsGood x → is_live x ≡ true → desired_rank x.desired ≤ desired_rank desired.Shutdown
live-most x good is =
    let low : desired_rank x.desired ≤ desired_rank x.goal = grind (arith, nat_tests, is) in
    omega (arith, low, good.goal)

new-least : (s : TaskState) → is_new s ≡ true → rank s ≤ rank state.Pending
new-least state.New is = omega arith
new-least _ is = absurd cc

-- What becomes of a task.

pub noted-moves : (version : ℕ) (n : Note) (x : Task) → TaskMoves x (noted version n x)
noted-moves version n x = moves-by x (noted version n x) refl refl refl (omega arith) (omega arith)

shut-moves : (version : ℕ) (x : Task) → IsGood x → is_live x ≡ true → TaskMoves x (wanted version desired.Shutdown x)
shut-moves version x good is = moves-wanted version desired.Shutdown x (live-most x good is)

pub closed-moves : (version : ℕ) (cause : Closed) (x : Task) → TaskMoves x (closed_by version cause x)
closed-moves version cause x = moves-by x (closed_by version cause x) refl refl refl (omega arith) (omega arith)

-- Tables of an orderly world.

abbrev InOrder : Tables → Type 0
InOrder t = RisesBetween task_id 1 t.next_id t.tasks

abbrev AreGood : Tables → Type 0
AreGood t = (x : Task) → Has t.tasks x → IsGood x

-- Restart.

pub attempt-moves : (t : Tables) (s : Service) (p : Place) → TablesMove t (with_attempt t s p)
attempt-moves t s p = record {
  next = omega arith;
  nodes = turns-ids t.nodes;
  services = turns-ids t.services;
  tasks = (tables-same t).tasks;
  networks = networks-stay t.networks;
  sessions = sessions-same t.sessions t.next_id t.next_id;
  opens = rows-stay session_node t.next_id t.next_id t.sessions (omega arith);
  ids = λ i. inl (omega arith);
}

pub good-next : (version : ℕ) (t : Tables) (s : Service) (p : Place) → IsGood (next_task version t s p)
good-next version t s p =
    let good = good-new version t s p desired.Ready in record { goal = good.goal; bound = good.bound }

policy-moves : (version : ℕ) (t : Tables) (s : Service) (p : Place) (why : Option Closed) →
    TablesMove t (by_policy version t s p why)
policy-moves version t s p None =
    tables-then t (with_attempt t s p) _ (attempt-moves t s p)
    (move-add (with_attempt t s p) (next_task version t s p) refl (good-next version t s p))
policy-moves version t s p (Some cause) = go (newest (tasks_of_place s p t.tasks))
  where
    go : (o : Option Task) → TablesMove t (on_row t (λ y. change_task y.id (closed_by version cause) t) o)
    go None = tables-same t
    go (Some y) = move-any_task t y.id (closed_by version cause) (λ x h. closed-moves version cause x)

pub shut-task : (version : ℕ) (t : Tables) (x : Task) → InOrder t → Has t.tasks x → IsGood x → is_live x ≡ true →
    TablesMove t (shut version x.id t)
shut-task version t x rises there good live =
    move-task t x (wanted version desired.Shutdown) rises there (shut-moves version x good live)

restarted-moves : (version : ℕ) (t : Tables) (x : Task) (s : Service) → InOrder t → Has t.tasks x → IsGood x →
    is_live x ≡ true → TablesMove t (restarted version t x s)
restarted-moves version t x s rises there good live = go (has_other t s x)
  where
    go : (b : Bool) →
        TablesMove t (cond b (shut version x.id t) (by_policy version (shut version x.id t) s x.place (no_restart t s x)))
    go true = shut-task version t x rises there good live
    go false =
        tables-then t (shut version x.id t) _ (shut-task version t x rises there good live)
        (policy-moves version (shut version x.id t) s x.place (no_restart t s x))

-- the row that is found is the one that the duty is of
pub found-is : (t : Tables) (id : ℕ) (Fact : Task → Type 0) → InOrder t → OfRow t.tasks task_id id Fact → (x : Task) →
    row_at task_id id t.tasks ≡ Some x → Has t.tasks x × (x.id ≡ id) × Fact x
found-is t id Fact rises of x e =
    let at = Has-from_row_at task_id id t.tasks x e in
    let same = between-one task_id 1 t.next_id t.tasks of.row x rises of.there at.0 (of.id_is ∙ sym at.1) in
    (at.0, at.1, subst Fact same of.fact)

pub restart-moves : (version : ℕ) (t : Tables) (id : ℕ) → InOrder t → AreGood t →
    OfRow t.tasks task_id id (λ x. wants_restart t x ≡ true) → TablesMove t (after_restart version t id)
restart-moves version t id rises good of = go (row_at task_id id t.tasks) refl
  where
    go : (o : Option Task) → row_at task_id id t.tasks ≡ o →
        TablesMove t (on_row t (λ x. on_service t x.service (restarted version t x)) o)
    go None e = tables-same t
    go (Some x) e =
        let is = found-is t id (λ x. wants_restart t x ≡ true) rises of x e in
        let live = first_so (is_live x) _ (first_so _ _ is.2) in
        move-on_service t x.service (restarted version t x)
        (λ s. restarted-moves version t x s rises is.0 (good x is.0) live)

-- the task of the duty, changed
pub of-task : (t : Tables) (id : ℕ) (Fact : Task → Type 0) (f : Task → Task) → InOrder t → OfRow t.tasks task_id id Fact →
    ((x : Task) → Has t.tasks x → Fact x → TaskMoves x (f x)) →
    TablesMove t (change_task id f t)
of-task t id Fact f rises of each =
    subst (λ k. TablesMove t (change_task k f t)) of.id_is
    (move-task t of.row f rises of.there (each of.row of.there of.fact))

pub raised-moves : (version : ℕ) (t : Tables) (x : Task) → wants_raise t x ≡ true → TaskMoves x (raised version x)
raised-moves version t x e =
    let waits : is_to_wait x ≡ true = first_so (is_to_wait x) _ (first_so _ _ (first_so _ _ (first_so _ _ e))) in
    let least = desired-least x.goal in
    let is : desired_rank x.desired ≡ desired_rank desired.Ready = grind (arith, nat_tests, waits) in
    moves-by x (raised version x) refl refl refl (omega arith) (omega (arith, least, is))

pub addressed-moves : (version : ℕ) (t : Tables) (x : Task) → gets_address t x ≡ true → TaskMoves x (with_addresses version t x)
addressed-moves version t x e =
    let fresh : is_new x.state ≡ true = first_so (is_new x.state) _ (first_so _ _ (first_so _ _ (first_so _ _ e))) in
    moves-by x (with_addresses version t x) refl refl refl (new-least x.state fresh) (omega arith)

pub dropped-moves : (version clock : ℕ) (x : Task) → is_to_drop x ≡ true → TaskMoves x (in_state version clock state.Shutdown x)
dropped-moves version clock x e =
    let below : is_below_assigned x ≡ true = first_so (is_below_assigned x) _ e in
    moves-in_state version clock state.Shutdown x (grind (arith, nat_tests, below))

pub rejected-moves : (version : ℕ) (t : Tables) (x : Task) → is_misplaced t x ≡ true →
    TaskMoves x (in_state version t.clock state.Rejected x)
rejected-moves version t x e =
    let most = placed-most x (second_so (is_live x) (is_placed x) (first_so _ _ e)) in
    moves-in_state version t.clock state.Rejected x (omega (arith, most))

-- Updates.

pub swap-moves : (version : ℕ) (t : Tables) (k : ℕ) (s : Service) → AreGood t → TablesMove t (swap_place version t k s)
swap-moves version t k s good =
    move-where t (λ x. is_in_place s (place_at s.spec.mode k) x && is_live_dirty s x) (wanted version desired.Shutdown)
    (λ x h e. shut-moves version x (good x h) (first_so (is_live x) _ (second_so _ (is_live_dirty s x) e)))

pub order-moves : (version : ℕ) (t : Tables) (s : Service) (k : ℕ) (o : UpdateOrder) → AreGood t →
    TablesMove t (by_order version t s k o)
order-moves version t s k order.StopFirst good =
    let stopped = change_where (live_of_place s k) (wanted version desired.Shutdown) t in
    tables-then t stopped _
    (move-where t (live_of_place s k) (wanted version desired.Shutdown)
    (λ x h e. shut-moves version x (good x h) (second_so _ (is_live x) e)))
    (move-new version desired.Ready stopped s k)
order-moves version t s k order.StartFirst good = move-new version _ t s k

pub replace-moves : (version : ℕ) (t : Tables) (k : ℕ) (s : Service) → AreGood t → TablesMove t (replace_place version t k s)
replace-moves version t k s good =
    let placed = by_order version t s k s.spec.update.order in
    tables-then t placed _ (order-moves version t s k s.spec.update.order good)
    (move-service placed s.id (replaced_in version (item_of t (place_at s.spec.mode k))) (λ v e. refl))

paused-moves : (version : ℕ) (t : Tables) (s : Service) → TablesMove t (paused version t s)
paused-moves version t s = move-service t s.id _ (λ v e. refl)

pub fail-moves : (version : ℕ) (t : Tables) (s : Service) (b : Bool) (spec : Option ServiceSpec) →
    TablesMove t (fail_run version t s b spec)
fail-moves version t s true (Some spec) = move-service t s.id _ (λ v e. sym e)
fail-moves version t s true None = paused-moves version t s
fail-moves version t s false spec = paused-moves version t s
