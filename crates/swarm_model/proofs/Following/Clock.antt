-- No duty moves the clock.
use Rattle.std.proofs.Common.{Bool, None, Option, Some, cond, false, refl, true, ℕ, ◌+◌, ◌≡◌}
use Rattle.swarm_model.specs.History.{effect}
use Rattle.swarm_objects.specs.Agents.Messages.{message_for}
use Rattle.swarm_objects.specs.Changes.{change_task, noted, on_service, on_task}
use Rattle.swarm_objects.specs.Duties.{effect_by}
use Rattle.swarm_objects.specs.Loops.Agents.{after_pull, executor_at, reported_by}
use Rattle.swarm_objects.specs.Loops.Allocator.{exhausted_for, give_port}
use Rattle.swarm_objects.specs.Loops.Restart.{by_policy, closed_by, restarted, shut}
use Rattle.swarm_objects.specs.Loops.Update.{by_order, fail_run, may_roll_back}
use Rattle.swarm_objects.specs.Rows.{on_row, row_at, service_id, task_id}
use Rattle.swarm_objects.specs.Services.Ports.{free_port}
use Rattle.swarm_objects.specs.Tasks.Places.{has_other, newest, tasks_of_place}
use Rattle.swarm_objects.specs.Tasks.Policy.{no_restart}
use Rattle.swarm_objects.specs.World.{Tables, World}
use Rattle.swarm_objects.specs.declared.agents.Executor.{Executor}
use Rattle.swarm_objects.specs.declared.duties.Duty.TheVariants as duty
use Rattle.swarm_objects.specs.declared.duties.Duty.{Duty}
use Rattle.swarm_objects.specs.declared.messages.Message.{Message}
use Rattle.swarm_objects.specs.declared.services.Service.{Service}
use Rattle.swarm_objects.specs.declared.services.ServiceSpec.{ServiceSpec}
use Rattle.swarm_objects.specs.declared.services.UpdateOrder.TheVariants as order
use Rattle.swarm_objects.specs.declared.services.UpdateOrder.{UpdateOrder}
use Rattle.swarm_objects.specs.declared.tasks.Closed.{Closed}
use Rattle.swarm_objects.specs.declared.tasks.Note.{Note}
use Rattle.swarm_objects.specs.declared.tasks.Place.{Place}
use Rattle.swarm_objects.specs.declared.tasks.Task.{Task}

-- The service or the task of a duty may be missing; then nothing is done.

on_service-clock : (t : Tables) (s : ℕ) (use_service : Service → Tables) →
    ((v : Service) → (use_service v).clock ≡ t.clock) →
    (on_service t s use_service).clock ≡ t.clock
on_service-clock t s use_service each = go (row_at service_id s t.services)
  where
    go : (o : Option Service) → (on_row t use_service o).clock ≡ t.clock
    go None = refl
    go (Some v) = each v

on_task-clock : (t : Tables) (x : ℕ) (use_task : Task → Tables) → ((y : Task) → (use_task y).clock ≡ t.clock) →
    (on_task t x use_task).clock ≡ t.clock
on_task-clock t x use_task each = go (row_at task_id x t.tasks)
  where
    go : (o : Option Task) → (on_row t use_task o).clock ≡ t.clock
    go None = refl
    go (Some y) = each y

fail-clock : (version : ℕ) (t : Tables) (s : Service) (back : Bool) (spec : Option ServiceSpec) →
    (fail_run version t s back spec).clock ≡ t.clock
fail-clock version t s true (Some spec) = refl
fail-clock version t s true None = refl
fail-clock version t s false spec = refl

order-clock : (version : ℕ) (t : Tables) (s : Service) (k : ℕ) (o : UpdateOrder) →
    (by_order version t s k o).clock ≡ t.clock
order-clock version t s k order.StopFirst = refl
order-clock version t s k order.StartFirst = refl

newest-clock : (version : ℕ) (t : Tables) (cause : Closed) (o : Option Task) →
    (on_row t (λ y. change_task y.id (closed_by version cause) t) o).clock ≡ t.clock
newest-clock version t cause None = refl
newest-clock version t cause (Some y) = refl

policy-clock : (version : ℕ) (t : Tables) (s : Service) (p : Place) (why : Option Closed) →
    (by_policy version t s p why).clock ≡ t.clock
policy-clock version t s p None = refl
policy-clock version t s p (Some cause) = newest-clock version t cause (newest (tasks_of_place s p t.tasks))

restarted-clock : (version : ℕ) (t : Tables) (x : Task) (s : Service) → (restarted version t x s).clock ≡ t.clock
restarted-clock version t x s = go (has_other t s x)
  where
    go : (b : Bool) →
        (cond b (shut version x.id t) (by_policy version (shut version x.id t) s x.place (no_restart t s x))).clock
        ≡ t.clock
    go true = refl
    go false = policy-clock version (shut version x.id t) s x.place (no_restart t s x)

port-clock : (version : ℕ) (t : Tables) (s target : ℕ) (udp : Bool) (number : Option ℕ) →
    (give_port version t s target udp number).clock ≡ t.clock
port-clock version t s target udp None = refl
port-clock version t s target udp (Some number) = refl

note-clock : (version : ℕ) (t : Tables) (x : Task) (n : Option Note) →
    (on_row t (λ n. change_task x.id (noted version n) t) n).clock ≡ t.clock
note-clock version t x None = refl
note-clock version t x (Some n) = refl

report-clock : (version : ℕ) (w : World) (o : Option Executor) → (reported_by version w o).clock ≡ w.tables.clock
report-clock version w None = refl
report-clock version w (Some e) = refl

pull-clock : (w : World) (n : ℕ) (m : Option Message) → (after_pull w n m).tables.clock ≡ w.tables.clock
pull-clock w n None = refl
pull-clock w n (Some m) = refl

effect-clock : (version : ℕ) (w : World) (d : Duty) → (effect_by version w d).tables.clock ≡ w.tables.clock
effect-clock version w (duty.Restart x) =
    on_task-clock w.tables x _ (λ y. on_service-clock w.tables y.service _ (restarted-clock version w.tables y))
effect-clock version w (duty.Start s) = on_service-clock w.tables s _ (λ v. refl)
effect-clock version w (duty.Fail s) =
    on_service-clock w.tables s _ (λ v. fail-clock version w.tables v (may_roll_back v) v.previous)
effect-clock version w (duty.Swap s k) = on_service-clock w.tables s _ (λ v. refl)
effect-clock version w (duty.Replace s k) =
    on_service-clock w.tables s _ (λ v. order-clock version w.tables v k v.spec.update.order)
effect-clock version w (duty.Finish s) = on_service-clock w.tables s _ (λ v. refl)
effect-clock version w (duty.Down s k) = on_service-clock w.tables s _ (λ v. refl)
effect-clock version w (duty.ReplicatedCreate s k) = on_service-clock w.tables s _ (λ v. refl)
effect-clock version w (duty.Leave s n) = on_service-clock w.tables s _ (λ v. refl)
effect-clock version w (duty.GlobalCreate s n) = on_service-clock w.tables s _ (λ v. refl)
effect-clock version w (duty.JobCreate s k) = on_service-clock w.tables s _ (λ v. refl)
effect-clock version w (duty.Port s target udp) = port-clock version w.tables s target udp (free_port w.tables udp)
effect-clock version w (duty.Note x) =
    on_task-clock w.tables x _ (λ y. note-clock version w.tables y (exhausted_for w.tables y))
effect-clock version w (duty.Pull n) = pull-clock w n (message_for w n)
effect-clock version w (duty.Report n x) = report-clock version w (executor_at w n x)
effect-clock version w d = refl

-- no duty moves the clock
pub duty-clock : (w : World) (d : Duty) → (effect w d).tables.clock ≡ w.tables.clock
duty-clock w d = effect-clock (w.entries + 1) w d
