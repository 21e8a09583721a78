-- A duty takes one number at most, and a call as many as it may have operations; only a tick moves the clock.
use Rattle.std.proofs.Common.{Bool, Err, List, None, Ok, Option, Result, Some, [], ap, arith, cond, false, length, nat_lt, refl, subst, true, ℕ, ◌*◌, ◌++◌, ◌+◌, ◌∷◌, ◌≡◌, ◌≤◌}
use Rattle.std.proofs.lemmas.Bool.Decides.{nat_tests}
use Rattle.std.specs.Prelude.{nat_le, not, ◌==◌}
use Rattle.swarm_model.proofs.Base.Answers.{OnDone, OnGiven, given-found, given-if, given-if_not, given-is, given-unless, given-unless_some, not_refused}
use Rattle.swarm_model.proofs.Laws.Timely.{each-changed, each-pushed}
use Rattle.swarm_model.proofs.Moves.Calls.{find-has}
use Rattle.swarm_model.specs.Calls.Faults.{on_agent}
use Rattle.swarm_model.specs.Calls.Networks.{remove_network}
use Rattle.swarm_model.specs.Calls.Nodes.{remove_node, update_node}
use Rattle.swarm_objects.specs.NewRows.{respecified_node}
use Rattle.swarm_model.specs.Calls.Operations.{apply_op, apply_ops}
use Rattle.swarm_model.specs.Calls.Refusals.{Done, conflict, found, has_name, network_by, node_by, service_by, service_name}
use Rattle.swarm_model.specs.Calls.Remote.{begin_with, given_or, on_remote, on_session, pulled, remote_status, report}
use Rattle.swarm_objects.specs.Nodes.Admission.{not_admitted}
use Rattle.swarm_model.specs.Calls.Services.{filled, go_back, new_service, remove_service, rollback_service, update_service, with_service, without_service}
use Rattle.swarm_objects.specs.NewRows.{next_iteration, respecified}
use Rattle.swarm_model.specs.Calls.Views.{View, shows}
use Rattle.swarm_model.specs.Calls.Watches.{polled, told_at, waiting_events, watch_finish, watch_poll, without_watcher}
use Rattle.swarm_model.specs.Calls.{answer, answered, ticked, txn_answer, viewed}
use Rattle.swarm_model.specs.History.{replay_from, step, step_world}
use Rattle.swarm_model.specs.Outcome.{Answered}
use Rattle.swarm_objects.proofs.RowLemmas.{Has-filter_cases, Has-from_row_at}
use Rattle.swarm_objects.proofs.Tests.{second_so}
use Rattle.swarm_objects.specs.Agents.Messages.{message_for}
use Rattle.swarm_objects.specs.Changes.{change_service, change_task, noted, on_service, on_task}
use Rattle.swarm_objects.specs.Duties.{effect_by}
use Rattle.swarm_objects.specs.Limits.{is_tick, longest_tick, most_events, most_ops}
use Rattle.swarm_objects.specs.Loops.Agents.{after_pull, change_agent, executor_at, reported_by}
use Rattle.swarm_objects.specs.Loops.Allocator.{exhausted_for, give_port}
use Rattle.swarm_objects.specs.Loops.Restart.{by_policy, closed_by, restarted, shut}
use Rattle.swarm_objects.specs.Loops.Update.{by_order, fail_run, may_roll_back, replaced_in}
use Rattle.swarm_objects.specs.Nodes.Sessions.{session_of}
use Rattle.swarm_objects.specs.Rows.{Has, change_row, on_row, row_at, service_id, task_id, watcher_id}
use Rattle.swarm_objects.specs.Services.Ports.{free_port}
use Rattle.swarm_objects.specs.Tasks.Places.{has_other, newest, tasks_of_place}
use Rattle.swarm_objects.specs.Tasks.Policy.{no_restart}
use Rattle.swarm_objects.specs.World.{Tables, World}
use Rattle.swarm_objects.specs.declared.agents.Executor.{Executor}
use Rattle.swarm_objects.specs.declared.agents.NodeAgent.{NodeAgent}
use Rattle.swarm_objects.specs.declared.calls.Call.TheVariants as call
use Rattle.swarm_objects.specs.declared.calls.Call.{Call}
use Rattle.swarm_objects.specs.declared.calls.Entry.{Entry}
use Rattle.swarm_objects.specs.declared.calls.Op.TheVariants as op
use Rattle.swarm_objects.specs.declared.calls.Op.{Op}
use Rattle.swarm_objects.specs.declared.calls.What.TheVariants as what
use Rattle.swarm_objects.specs.declared.calls.What.{What}
use Rattle.swarm_objects.specs.declared.duties.Duty.TheVariants as duty
use Rattle.swarm_objects.specs.declared.duties.Duty.{Duty}
use Rattle.swarm_objects.specs.declared.ids.Kind.TheVariants as kind
use Rattle.swarm_objects.specs.declared.messages.Message.{Message}
use Rattle.swarm_objects.specs.declared.networks.Network.{Network}
use Rattle.swarm_objects.specs.declared.nodes.Node.{Node}
use Rattle.swarm_objects.specs.declared.replies.Refusal.TheVariants as refusal
use Rattle.swarm_objects.specs.declared.replies.Refusal.{Refusal}
use Rattle.swarm_objects.specs.declared.replies.Reply.TheVariants as reply
use Rattle.swarm_objects.specs.declared.replies.Reply.{Reply}
use Rattle.swarm_objects.specs.declared.replies.Wanted.TheVariants as wanted_by
use Rattle.swarm_objects.specs.declared.services.Draft.{Draft}
use Rattle.swarm_objects.specs.declared.services.Mode.TheVariants as mode
use Rattle.swarm_objects.specs.declared.services.Mode.{Mode}
use Rattle.swarm_objects.specs.declared.services.Replaced.{Replaced}
use Rattle.swarm_objects.specs.declared.services.Service.{Service}
use Rattle.swarm_objects.specs.declared.services.ServiceSpec.{ServiceSpec}
use Rattle.swarm_objects.specs.declared.services.UpdateOrder.TheVariants as order
use Rattle.swarm_objects.specs.declared.services.UpdateOrder.{UpdateOrder}
use Rattle.swarm_objects.specs.declared.tasks.Closed.{Closed}
use Rattle.swarm_objects.specs.declared.tasks.Note.{Note}
use Rattle.swarm_objects.specs.declared.tasks.Place.{Place}
use Rattle.swarm_objects.specs.declared.tasks.Task.{Task}
use Rattle.swarm_objects.specs.declared.tasks.TaskState.{TaskState}
use Rattle.swarm_objects.specs.declared.watches.Event.{Event}
use Rattle.swarm_objects.specs.declared.watches.Watcher.{Watcher}

abbrev Iterated : ℕ → List Service → Type 0
Iterated m services = (s : Service) → Has services s → s.iteration ≤ m

-- so many new numbers and iterations at most, and so much time
pub record Counts (n ms : ℕ) (t u : Tables) : Type 0 where
  pub next : u.next_id ≤ t.next_id + n
  pub clock : u.clock ≤ t.clock + ms
  pub iteration : (m : ℕ) → ((s : Service) → Has t.services s → s.iteration ≤ m) → (s : Service) → Has u.services s →
      s.iteration ≤ m + n

still : (n ms : ℕ) (t : Tables) → Counts n ms t t
still n ms t = record { next = omega arith; clock = omega arith; iteration = λ m is s h. omega (arith, is s h) }

same-iterations : (n : ℕ) (t u : Tables) → u.services ≡ t.services → (m : ℕ) → Iterated m t.services → Iterated
    (m + n) u.services
same-iterations n t u same m is s h = omega (arith, is s (subst (λ xs. Has xs s) same h))

as-they : (n ms : ℕ) (t u : Tables) → u.next_id ≡ t.next_id → u.clock ≡ t.clock → u.services ≡ t.services →
    Counts n ms t u
as-they n ms t u next clock services = record {
  next = omega (arith, next);
  clock = omega (arith, clock);
  iteration = same-iterations n t u services;
}

one : (n ms : ℕ) (t u : Tables) → 1 ≤ n → u.next_id ≡ t.next_id + 1 → u.clock ≡ t.clock → u.services ≡ t.services →
    Counts n ms t u
one n ms t u some next clock services = record {
  next = omega (arith, next, some);
  clock = omega (arith, clock);
  iteration = same-iterations n t u services;
}

-- a service is changed
turned : (n : ℕ) (t u : Tables) (id : ℕ) (f : Service → Service) → u.next_id ≤ t.next_id + n → u.clock ≡ t.clock →
    u.services ≡ change_row service_id id f t.services →
    ((m : ℕ) → Iterated m t.services → (s : Service) → Has t.services s → (f s).iteration ≤ m + n) → Counts n 0 t u
turned n t u id f next clock services each = record {
  next = next;
  clock = omega (arith, clock);
  iteration = λ m is s h.
      each-changed (λ (v : Service). v.iteration ≤ m + n) service_id id f t.services (λ v k. omega (arith, is v k))
      (λ v k e. each m is v k) s (subst (λ xs. Has xs s) services h);
}

-- Duties.

service-counts : (t : Tables) (s : ℕ) (use_service : Service → Tables) →
    ((v : Service) → Has t.services v → Counts 1 0 t (use_service v)) → Counts 1 0 t (on_service t s use_service)
service-counts t s use_service each = go (row_at service_id s t.services) refl
  where
    go : (o : Option Service) → row_at service_id s t.services ≡ o → Counts 1 0 t (on_row t use_service o)
    go None e = still 1 0 t
    go (Some v) e = each v (Has-from_row_at service_id s t.services v e).0

task-counts : (t : Tables) (x : ℕ) (use_task : Task → Tables) → ((y : Task) → Counts 1 0 t (use_task y)) →
    Counts 1 0 t (on_task t x use_task)
task-counts t x use_task each = go (row_at task_id x t.tasks)
  where
    go : (o : Option Task) → Counts 1 0 t (on_row t use_task o)
    go None = still 1 0 t
    go (Some y) = each y

fail-counts : (version : ℕ) (t : Tables) (s : Service) (back : Bool) (spec : Option ServiceSpec) → Has t.services s →
    Counts 1 0 t (fail_run version t s back spec)
fail-counts version t s true (Some spec) there =
    turned 1 t _ s.id _ (omega arith) refl refl (λ m is v h. omega (arith, is s there))
fail-counts version t s true None there = turned 1 t _ s.id _ (omega arith) refl refl
    (λ m is v h. omega (arith, is v h))
fail-counts version t s false spec there = turned 1 t _ s.id _ (omega arith) refl refl
    (λ m is v h. omega (arith, is v h))

order-counts : (version : ℕ) (t : Tables) (s : Service) (k : ℕ) (o : UpdateOrder) (item : Replaced) →
    Counts 1 0 t (change_service s.id (replaced_in version item) (by_order version t s k o))
order-counts version t s k order.StopFirst item =
    turned 1 t _ s.id (replaced_in version item) (omega arith) refl refl (λ m is v h. omega (arith, is v h))
order-counts version t s k order.StartFirst item =
    turned 1 t _ s.id (replaced_in version item) (omega arith) refl refl (λ m is v h. omega (arith, is v h))

newest-counts : (version : ℕ) (t : Tables) (cause : Closed) (o : Option Task) →
    Counts 1 0 t (on_row t (λ y. change_task y.id (closed_by version cause) t) o)
newest-counts version t cause None = still 1 0 t
newest-counts version t cause (Some y) = as-they 1 0 t _ refl refl refl

policy-counts : (version : ℕ) (t u : Tables) (s : Service) (p : Place) (why : Option Closed) → u.next_id ≡ t.next_id →
    u.clock ≡ t.clock → u.services ≡ t.services → Counts 1 0 t (by_policy version u s p why)
policy-counts version t u s p None next clock services =
    one 1 0 t (by_policy version u s p None) (omega arith) (ap (λ (k : ℕ). k + 1) next) clock services
policy-counts version t u s p (Some cause) next clock services =
    let rest = newest-counts version u cause (newest (tasks_of_place s p u.tasks)) in
    record {
      next = omega (arith, rest.next, next);
      clock = omega (arith, rest.clock, clock);
      iteration = λ m is. rest.iteration m (λ s h. is s (subst (λ xs. Has xs s) services h));
    }

restarted-counts : (version : ℕ) (t : Tables) (x : Task) (s : Service) → Counts 1 0 t (restarted version t x s)
restarted-counts version t x s = go (has_other t s x)
  where
    go : (b : Bool) →
        Counts 1 0 t (cond b (shut version x.id t) (by_policy version (shut version x.id t) s x.place
        (no_restart t s x)))
    go true = as-they 1 0 t _ refl refl refl
    go false = policy-counts version t (shut version x.id t) s x.place (no_restart t s x) refl refl refl

port-counts : (version : ℕ) (t : Tables) (s target : ℕ) (udp : Bool) (number : Option ℕ) →
    Counts 1 0 t (give_port version t s target udp number)
port-counts version t s target udp None = still 1 0 t
port-counts version t s target udp (Some number) =
    turned 1 t _ s _ (omega arith) refl refl (λ m is v h. omega (arith, is v h))

note-counts : (version : ℕ) (t : Tables) (x : Task) (n : Option Note) →
    Counts 1 0 t (on_row t (λ n. change_task x.id (noted version n) t) n)
note-counts version t x None = still 1 0 t
note-counts version t x (Some n) = as-they 1 0 t _ refl refl refl

report-counts : (version : ℕ) (w : World) (o : Option Executor) → Counts 1 0 w.tables (reported_by version w o)
report-counts version w None = still 1 0 w.tables
report-counts version w (Some e) = as-they 1 0 w.tables _ refl refl refl

pull-counts : (w : World) (n : ℕ) (m : Option Message) → Counts 1 0 w.tables (after_pull w n m).tables
pull-counts w n None = still 1 0 w.tables
pull-counts w n (Some m) = still 1 0 w.tables

pub duty-counts : (version : ℕ) (w : World) (d : Duty) → Counts 1 0 w.tables (effect_by version w d).tables
duty-counts version w (duty.Restart x) =
    task-counts w.tables x _ (λ y. service-counts w.tables y.service _ (λ v h. restarted-counts version w.tables y v))
duty-counts version w (duty.Start s) =
    service-counts w.tables s _ (λ v h. turned 1 w.tables _ v.id _ (omega arith) refl refl
    (λ m is u k. omega (arith, is u k)))
duty-counts version w (duty.Fail s) =
    service-counts w.tables s _ (λ v h. fail-counts version w.tables v (may_roll_back v) v.previous h)
duty-counts version w (duty.Swap s k) = service-counts w.tables s _ (λ v h. as-they 1 0 w.tables _ refl refl refl)
duty-counts version w (duty.Replace s k) =
    service-counts w.tables s _ (λ v h. order-counts version w.tables v k v.spec.update.order _)
duty-counts version w (duty.Finish s) =
    service-counts w.tables s _ (λ v h. turned 1 w.tables _ v.id _ (omega arith) refl refl
    (λ m is u k. omega (arith, is u k)))
duty-counts version w (duty.Down s k) = service-counts w.tables s _ (λ v h. as-they 1 0 w.tables _ refl refl refl)
duty-counts version w (duty.ReplicatedCreate s k) =
    service-counts w.tables s _ (λ v h. one 1 0 w.tables _ (omega arith) refl refl refl)
duty-counts version w (duty.Leave s n) = service-counts w.tables s _ (λ v h. as-they 1 0 w.tables _ refl refl refl)
duty-counts version w (duty.GlobalCreate s n) =
    service-counts w.tables s _ (λ v h. one 1 0 w.tables _ (omega arith) refl refl refl)
duty-counts version w (duty.JobCreate s k) = service-counts w.tables s _
    (λ v h. one 1 0 w.tables _ (omega arith) refl refl refl)
duty-counts version w (duty.Port s target udp) = port-counts version w.tables s target udp (free_port w.tables udp)
duty-counts version w (duty.Note x) =
    task-counts w.tables x _ (λ y. note-counts version w.tables y (exhausted_for w.tables y))
duty-counts version w (duty.Register n) = one 1 0 w.tables _ (omega arith) refl refl refl
duty-counts version w (duty.Pull n) = pull-counts w n (message_for w n)
duty-counts version w (duty.Report n x) = report-counts version w (executor_at w n x)
duty-counts version w d = as-they 1 0 w.tables (effect_by version w d).tables refl refl refl

-- Operations.

respecified-counts : (version : ℕ) (back : Bool) (spec : ServiceSpec) (t : Tables) (s : Service) → Has t.services s →
    Counts 1 0 t (change_service s.id (λ old. respecified version back spec s) t)
respecified-counts version back spec t s there =
    turned 1 t _ s.id (λ old. respecified version back spec s) (omega arith) refl refl
    (λ m is v h. next-iterated s.spec.mode s.iteration m (is s there))
  where
    next-iterated : (how : Mode) (k m : ℕ) → k ≤ m → next_iteration how k ≤ m + 1
    next-iterated (mode.Replicated n) k m le = omega (arith, le)
    next-iterated mode.Global k m le = omega (arith, le)
    next-iterated (mode.Job c n) k m le = omega (arith, le)

back-counts : (version : ℕ) (w : World) (s : Service) (spec : Option ServiceSpec) → Has w.tables.services s →
    OnDone (λ v. Counts 1 0 w.tables v.tables) (go_back version w s spec)
back-counts version w s None there = tt
back-counts version w s (Some spec) there = respecified-counts version true spec w.tables s there

created-counts : (version : ℕ) (t : Tables) (name : List ℕ) (d : Draft) → Counts 1 0 t
    (with_service t (new_service version t name d))
created-counts version t name d = record {
  next = omega arith;
  clock = omega arith;
  iteration = λ m is.
      each-pushed (λ (s : Service). s.iteration ≤ m + 1) t.services (new_service version t name d)
      (λ s h. omega (arith, is s h)) (omega arith);
}

removed-counts : (t : Tables) (id : ℕ) → Counts 1 0 t (without_service t id)
removed-counts t id = record {
  next = omega arith;
  clock = omega arith;
  iteration = λ m is s h. omega (arith, is s (Has-filter_cases (λ v. not (service_id v == id)) t.services s h).0);
}

pub op-counts : (version : ℕ) (w : World) (o : Op) → OnDone (λ v. Counts 1 0 w.tables v.tables) (apply_op version w o)
op-counts version w (op.CreateNode name draft) =
    given-unless (λ (d : World × ℕ). Counts 1 0 w.tables d.0.tables) _ _
    (λ e. one 1 0 w.tables _ (omega arith) refl refl refl)
op-counts version w (op.UpdateNode name asked labels r a) =
    given-found (λ (d : World × ℕ). Counts 1 0 w.tables d.0.tables) kind.Node (wanted_by.Name name)
    (node_by w.tables name)
    (λ n. update_node w asked n (respecified_node version labels r a n))
    (λ (n : Node) e. given-unless (λ (d : World × ℕ). Counts 1 0 w.tables d.0.tables) _ _
    (λ ok. as-they 1 0 w.tables _ refl refl refl))
op-counts version w (op.RemoveNode name force) =
    given-found (λ (d : World × ℕ). Counts 1 0 w.tables d.0.tables) kind.Node (wanted_by.Name name)
    (node_by w.tables name)
    (remove_node version w force)
    (λ (n : Node) e. given-unless (λ (d : World × ℕ). Counts 1 0 w.tables d.0.tables) _ _
    (λ ok. as-they 1 0 w.tables _ refl refl refl))
op-counts version w (op.CreateService name d) =
    given-unless (λ (d : World × ℕ). Counts 1 0 w.tables d.0.tables) _ _ (λ e. created-counts version w.tables name d)
op-counts version w (op.UpdateService name asked d) =
    given-found (λ (d : World × ℕ). Counts 1 0 w.tables d.0.tables) kind.Service (wanted_by.Name name)
    (service_by w.tables name)
    (update_service version w asked d)
    (λ (s : Service) e. given-unless (λ (d : World × ℕ). Counts 1 0 w.tables d.0.tables) _ _
    (λ ok. respecified-counts version false (filled w.tables d) w.tables s
    (find-has (has_name service_name name) w.tables.services s e)))
op-counts version w (op.RemoveService name) =
    given-found (λ (d : World × ℕ). Counts 1 0 w.tables d.0.tables) kind.Service (wanted_by.Name name)
    (service_by w.tables name)
    (remove_service w) (λ (s : Service) e. removed-counts w.tables s.id)
op-counts version w (op.RollbackService name asked) =
    given-found (λ (d : World × ℕ). Counts 1 0 w.tables d.0.tables) kind.Service (wanted_by.Name name)
    (service_by w.tables name)
    (rollback_service version w asked)
    (λ (s : Service) e. given-unless_some (λ (d : World × ℕ). Counts 1 0 w.tables d.0.tables)
    (conflict asked s.version) _
    (λ ok. back-counts version w s s.previous (find-has (has_name service_name name) w.tables.services s e)))
op-counts version w (op.CreateNetwork name base bits) =
    given-unless (λ (d : World × ℕ). Counts 1 0 w.tables d.0.tables) _ _
    (λ e. one 1 0 w.tables _ (omega arith) refl refl refl)
op-counts version w (op.RemoveNetwork name) =
    given-found (λ (d : World × ℕ). Counts 1 0 w.tables d.0.tables) kind.Network (wanted_by.Name name)
    (network_by w.tables name)
    (remove_network w)
    (λ (n : Network) e. given-unless (λ (d : World × ℕ). Counts 1 0 w.tables d.0.tables) _ _
    (λ ok. as-they 1 0 w.tables _ refl refl refl))
op-counts version w (op.SetCluster settings) =
    given-unless (λ (d : World × ℕ). Counts 1 0 w.tables d.0.tables) _ _ (λ e. as-they 1 0 w.tables _ refl refl refl)

pub ops-count : (version : ℕ) (ops : List Op) (w : World) (ids : List ℕ) →
    OnGiven (λ (d : World × List ℕ). Counts (length ops) 0 w.tables d.0.tables) (apply_ops version ops w ids)
ops-count version [] w ids = still 0 0 w.tables
ops-count version (o ∷ ops) w ids = go (apply_op version w o) (op-counts version w o)
    (λ v more. ops-count version ops v more)
  where
    both : (v : World) (given : Result (World × List ℕ) Refusal) → Counts 1 0 w.tables v.tables →
        OnGiven (λ (d : World × List ℕ). Counts (length ops) 0 v.tables d.0.tables) given →
        OnGiven (λ (d : World × List ℕ). Counts (length (o ∷ ops)) 0 w.tables d.0.tables) given
    both v (Ok d) first rest = record {
      next = omega (arith, first.next, rest.next);
      clock = omega (arith, first.clock, rest.clock);
      iteration = λ m is s h. omega (arith, rest.iteration (m + 1) (first.iteration m is) s h);
    }
    both v (Err r) first rest = tt

    go : (done : Done) → OnDone (λ v. Counts 1 0 w.tables v.tables) done →
        ((v : World) (more : List ℕ) → OnGiven (λ (d : World × List ℕ). Counts (length ops) 0 v.tables d.0.tables)
        (apply_ops version ops v more)) →
        OnGiven (λ (d : World × List ℕ). Counts (length (o ∷ ops)) 0 w.tables d.0.tables)
        (elim done [ Ok one_done ↦ apply_ops version ops one_done.0 (ids ++ one_done.1 ∷ []) | Err r ↦ Err r ])
    go (Ok d) first rest = both d.0 _ first (rest d.0 (ids ++ d.1 ∷ []))
    go (Err r) first rest = tt

-- an operation takes one id at most
pub next_id-op : (version : ℕ) (w : World) (o : Op) (v : World) (id : ℕ) → apply_op version w o ≡ Ok (v, id) →
    v.tables.next_id ≤ w.tables.next_id + 1
next_id-op version w o v id e =
    (given-is (λ (d : World × ℕ). Counts 1 0 w.tables d.0.tables) (apply_op version w o) (v, id)
    (op-counts version w o) e).next

-- Calls.

abbrev Answers : World → Answered → Type 0
Answers w given = OnGiven (λ (d : Reply × World). Counts 200 1000 w.tables d.1.tables) given

txn-counts : (w : World) (n : ℕ) (r : Result (World × List ℕ) Refusal) → n ≤ 200 →
    OnGiven (λ (d : World × List ℕ). Counts n 0 w.tables d.0.tables) r → Answers w (txn_answer r)
txn-counts w n (Ok done) few c = record {
  next = omega (arith, few, c.next);
  clock = omega (arith, c.clock);
  iteration = λ m is s h. omega (arith, few, c.iteration m is s h);
}
txn-counts w n (Err r) few c = tt

view-counts : (w : World) (v : View) → Answers w (viewed w v)
view-counts w (Ok v) = still 200 1000 w.tables
view-counts w (Err r) = tt

polled-counts : (entry : ℕ) (w : World) (id : ℕ) (events : List Event) → Counts 200 1000 w.tables
    (polled entry w id events).1.tables
polled-counts entry w id events = go (nat_lt most_events (length events))
  where
    go : (lagged : Bool) → Counts 200 1000 w.tables (cond {A = Reply × World} lagged
        (reply.Refused (refusal.Lagged (length events)), without_watcher id w)
        (reply.Events events, told_at entry id w)).1.tables
    go true = still 200 1000 w.tables
    go false = still 200 1000 w.tables

poll-counts : (entry : ℕ) (w : World) (id : ℕ) (x : Option Watcher) → Answers w (watch_poll entry w id x)
poll-counts entry w id None = tt
poll-counts entry w id (Some x) = polled-counts entry w id (waiting_events w x)

finish-counts : (w : World) (id : ℕ) (x : Option Watcher) → Answers w (watch_finish w id x)
finish-counts w id None = tt
finish-counts w id (Some x) = still 200 1000 w.tables

agent-counts : (w : World) (name : List ℕ) (f : NodeAgent → NodeAgent) → Answers w (on_agent w name f)
agent-counts w name f =
    given-found (λ (d : Reply × World). Counts 200 1000 w.tables d.1.tables) kind.Node (wanted_by.Name name)
    (node_by w.tables name)
    (λ n. cond n.remote (Err (refusal.WrongKind n.id)) (Ok (reply.AgentDone n.id, change_agent n.id f w)))
    (λ (n : Node) e. given-if_not (λ (d : Reply × World). Counts 200 1000 w.tables d.1.tables) n.remote
    (Ok (reply.AgentDone n.id, change_agent n.id f w)) (refusal.WrongKind n.id) (λ k. still 200 1000 w.tables))

remote-counts : (w : World) (name : List ℕ) (next : Node → Answered) → ((n : Node) → Answers w (next n)) →
    Answers w (on_remote w.tables name next)
remote-counts w name next each =
    given-found (λ (d : Reply × World). Counts 200 1000 w.tables d.1.tables) kind.Node (wanted_by.Name name)
    (node_by w.tables name)
    (λ n. cond n.remote (next n) (Err (refusal.WrongKind n.id)))
    (λ (n : Node) e. given-if (λ (d : Reply × World). Counts 200 1000 w.tables d.1.tables) n.remote (next n)
    (refusal.WrongKind n.id) (λ k. each n))

session-counts : (w : World) (name : List ℕ) (session : ℕ) (next : Node → Answered) →
    ((n : Node) → Answers w (next n)) →
    Answers w (on_session w.tables name session next)
session-counts w name session next each =
    remote-counts w name
    (λ n. elim (not_admitted w.tables.clock session (session_of w.tables n.id)) [ Some r ↦ Err r | None ↦ next n ])
    (λ n. given-unless_some (λ (d : Reply × World). Counts 200 1000 w.tables d.1.tables)
    (not_admitted w.tables.clock session (session_of w.tables n.id)) (next n) (λ e. each n))

status-counts : (version : ℕ) (w : World) (name : List ℕ) (session task : ℕ) (s : TaskState) →
    Answers w (remote_status version w name session task s)
status-counts version w name session task s =
    session-counts w name session
    (λ n. found kind.Task (wanted_by.Id task) (row_at task_id task w.tables.tasks) (report version w n.id s))
    (λ n. given-found (λ (d : Reply × World). Counts 200 1000 w.tables d.1.tables) kind.Task (wanted_by.Id task)
    (row_at task_id task w.tables.tasks) (report version w n.id s)
    (λ (x : Task) e. given-unless (λ (d : Reply × World). Counts 200 1000 w.tables d.1.tables) _ _
    (λ ok. as-they 200 1000 w.tables _ refl refl refl)))

pulled-counts : (w : World) (node : ℕ) (m : Option Message) → Counts 200 1000 w.tables (pulled w node m).tables
pulled-counts w node None = still 200 1000 w.tables
pulled-counts w node (Some m) = still 200 1000 w.tables

tick-counts : (w : World) (ms : ℕ) → is_tick ms ≡ true → Counts 200 1000 w.tables (ticked w ms).tables
tick-counts w ms e =
    let most : nat_le ms longest_tick ≡ true = second_so (nat_le 1 ms) (nat_le ms longest_tick) e in
    let few : ms ≤ 1000 = grind (arith, nat_tests, most) in
    record { next = omega arith; clock = omega (arith, few); iteration = λ m is s h. omega (arith, is s h) }

call-answers : (version : ℕ) (w : World) (c : Call) → Answers w (answer version w c)
call-answers version w (call.Txn ops) =
    given-if_not (λ (d : Reply × World). Counts 200 1000 w.tables d.1.tables) (nat_lt most_ops (length ops)) _ _
    (λ e. txn-counts w (length ops) _ (grind (arith, nat_tests, e)) (ops-count version ops w []))
call-answers version w (call.View asked) = view-counts w (shows w.tables asked)
call-answers version w (call.WatchBegin f) =
    given-unless (λ (d : Reply × World). Counts 200 1000 w.tables d.1.tables) _ _
    (λ e. one 200 1000 w.tables _ (omega arith) refl refl refl)
call-answers version w (call.WatchPoll id) = poll-counts version w id (row_at watcher_id id w.watchers)
call-answers version w (call.WatchFinish id) = finish-counts w id (row_at watcher_id id w.watchers)
call-answers version w (call.Tick ms) =
    given-unless (λ (d : Reply × World). Counts 200 1000 w.tables d.1.tables) _ _
    (λ e. tick-counts w ms (sure (is_tick ms) (not_refused (not (is_tick ms)) (refusal.BadTick ms) e)))
  where
    sure : (b : Bool) → not b ≡ false → b ≡ true
    sure true e = refl
    sure false e = absurd cc
call-answers version w (call.Settle budget) = still 200 1000 w.tables
call-answers version w (call.NodeFail name) = agent-counts w name _
call-answers version w (call.NodeStart name) = agent-counts w name _
call-answers version w (call.AgentStop name) = agent-counts w name _
call-answers version w (call.AgentStart name) = agent-counts w name _
call-answers version w (call.RemoteBegin name cpu mem) =
    remote-counts w name (λ n. begin_with version w n.id (given_or cpu n.cpu) (given_or mem n.mem))
    (λ n. given-unless (λ (d : Reply × World). Counts 200 1000 w.tables d.1.tables) _ _
    (λ e. one 200 1000 w.tables _ (omega arith) refl refl refl))
call-answers version w (call.RemoteBeat name session) =
    session-counts w name session _ (λ n. as-they 200 1000 w.tables _ refl refl refl)
call-answers version w (call.RemotePull name session) =
    session-counts w name session _ (λ n. pulled-counts w n.id (message_for w n.id))
call-answers version w (call.RemoteStatus name session task s) = status-counts version w name session task s
call-answers version w call.Halt = still 200 1000 w.tables

answered-counts : (w : World) (given : Answered) → Answers w given → Counts 200 1000 w.tables
    (answered w given).after.tables
answered-counts w (Ok done) c = c
answered-counts w (Err r) c = still 200 1000 w.tables

pub step-counts : (w : World) (e : What) → Counts 200 1000 w.tables (step w e).after.tables
step-counts w (what.Call c) =
    answered-counts w (answer (w.entries + 1) w c) (call-answers (w.entries + 1) w c)
step-counts w (what.Duty d) =
    let c = duty-counts (w.entries + 1) w d in
    record {
      next = omega (arith, c.next);
      clock = omega (arith, c.clock);
      iteration = λ m is s h. omega (arith, c.iteration m is s h);
    }

pub replay-counts : (w : World) (h : List Entry) → Counts (200 * length h) (1000 * length h) w.tables
    (replay_from w h).tables
replay-counts w [] = still 0 0 w.tables
replay-counts w (e ∷ h) =
    let first = step-counts w e.what in
    let rest = replay-counts (step_world w e) h in
    record {
      next = omega (arith, first.next, rest.next);
      clock = omega (arith, first.clock, rest.clock);
      iteration = λ m is s h. omega (arith, rest.iteration (m + 200) (first.iteration m is) s h);
    }
