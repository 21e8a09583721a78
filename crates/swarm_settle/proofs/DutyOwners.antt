-- No duty makes or takes a node or an agent.
use Rattle.std.proofs.Common.{Bool, cond, None, Option, Some, ap, refl, false, true, ℕ, ◌≡◌}
use Rattle.std.specs.Prelude.{map}
use Rattle.swarm_model.proofs.Moves.EachDuty.{taken-in}
use Rattle.swarm_settle.proofs.Owners.{agents-change, numbers-change}
use Rattle.swarm_settle.specs.Sent.{inside_numbers}
use Rattle.swarm_objects.specs.Agents.Messages.{change_executor, message_for}
use Rattle.swarm_objects.specs.Changes.{change_task, noted, on_service, on_task}
use Rattle.swarm_objects.specs.Duties.{effect_by}
use Rattle.swarm_objects.specs.Loops.Agents.{after_pull, begun, executor_at, received, reported_by, stepped, take_in, told}
use Rattle.swarm_objects.specs.Loops.Allocator.{exhausted_for, give_port, with_exhausted}
use Rattle.swarm_objects.specs.Services.Ports.{free_port}
use Rattle.swarm_objects.specs.Loops.Dispatcher.{fallen}
use Rattle.swarm_objects.specs.Loops.Restart.{by_policy, restarted, shut}
use Rattle.swarm_objects.specs.Tasks.Policy.{no_restart}
use Rattle.swarm_objects.specs.Tasks.Places.{has_other}
use Rattle.swarm_objects.specs.Loops.Update.{by_order, fail_run, may_roll_back}
use Rattle.swarm_objects.specs.Nodes.Sessions.{ready_node}
use Rattle.swarm_objects.specs.Rows.{agent_node, drop_row, executor_task, on_row, row_at, service_id, task_id}
use Rattle.swarm_objects.specs.Tasks.Places.{newest, tasks_of_place}
use Rattle.swarm_objects.specs.World.{Tables, World}
use Rattle.swarm_objects.specs.declared.agents.Executor.{Executor}
use Rattle.swarm_objects.specs.declared.duties.Duty.TheVariants as duty
use Rattle.swarm_objects.specs.declared.duties.Duty.{Duty}
use Rattle.swarm_objects.specs.declared.messages.Message.{Message}
use Rattle.swarm_objects.specs.declared.services.Service.{Service}
use Rattle.swarm_objects.specs.declared.services.ServiceSpec.{ServiceSpec}
use Rattle.swarm_objects.specs.declared.services.UpdateOrder.TheVariants as order
use Rattle.swarm_objects.specs.declared.services.UpdateOrder.{UpdateOrder}
use Rattle.swarm_objects.specs.declared.tasks.Closed.{Closed}
use Rattle.swarm_objects.specs.declared.tasks.Task.{Task}

-- the same nodes
abbrev pub SameNodes : Tables → Tables → Type 0
SameNodes t u = u.nodes ≡ t.nodes

on-option : {X : Type 0} (t : Tables) (o : Option X) (use_row : X → Tables) → ((x : X) → SameNodes t (use_row x)) →
    SameNodes t (on_row t use_row o)
on-option t None use_row each = refl
on-option t (Some x) use_row each = each x

restarted-nodes : (n : ℕ) (t : Tables) (x : Task) (s : Service) → SameNodes t (restarted n t x s)
restarted-nodes n t x s = go (has_other t s x)
  where
    policy : (o : Option Closed) → SameNodes t (by_policy n (shut n x.id t) s x.place o)
    policy None = refl
    policy (Some cause) =
        on-option (shut n x.id t) (newest (tasks_of_place s x.place (shut n x.id t).tasks)) _ (λ y. refl)

    go : (b : Bool) →
        SameNodes t (cond b (shut n x.id t) (by_policy n (shut n x.id t) s x.place (no_restart t s x)))
    go true = refl
    go false = policy (no_restart t s x)

fail-nodes : (n : ℕ) (t : Tables) (s : Service) (b : Bool) (o : Option ServiceSpec) → SameNodes t (fail_run n t s b o)
fail-nodes n t s true (Some spec) = refl
fail-nodes n t s true None = refl
fail-nodes n t s false o = refl

order-nodes : (n : ℕ) (t : Tables) (s : Service) (k : ℕ) (o : UpdateOrder) → SameNodes t (by_order n t s k o)
order-nodes n t s k order.StopFirst = refl
order-nodes n t s k order.StartFirst = refl

port-nodes : (n : ℕ) (t : Tables) (s target : ℕ) (udp : Bool) (o : Option ℕ) →
    SameNodes t (give_port n t s target udp o)
port-nodes n t s target udp None = refl
port-nodes n t s target udp (Some number) = refl

pub told-nodes : (n : ℕ) (w : World) (o : Option Executor) → SameNodes w.tables (reported_by n w o)
told-nodes n w None = refl
told-nodes n w (Some e) = refl

pull-numbers : (w : World) (m : ℕ) (o : Option Message) →
    inside_numbers (after_pull w m o).tables.nodes ≡ inside_numbers w.tables.nodes
pull-numbers w m None = refl
pull-numbers w m (Some message) = refl

abbrev SameNumbers : ℕ → World → Duty → Type 0
SameNumbers n w d = inside_numbers (effect_by n w d).tables.nodes ≡ inside_numbers w.tables.nodes

of-service : (t : Tables) (s : ℕ) (use_service : Service → Tables) → ((v : Service) → SameNodes t (use_service v)) →
    inside_numbers (on_service t s use_service).nodes ≡ inside_numbers t.nodes
of-service t s use_service each = ap inside_numbers (on-option t (row_at service_id s t.services) use_service each)

of-task : (t : Tables) (x : ℕ) (use_task : Task → Tables) → ((y : Task) → SameNodes t (use_task y)) →
    inside_numbers (on_task t x use_task).nodes ≡ inside_numbers t.nodes
of-task t x use_task each = ap inside_numbers (on-option t (row_at task_id x t.tasks) use_task each)

pub duty-numbers : (n : ℕ) (w : World) (d : Duty) → SameNumbers n w d
duty-numbers n w (duty.Expire m) = numbers-change m (fallen n w.tables.clock) w.tables.nodes (λ k h e. (refl, refl))
duty-numbers n w (duty.Orphan x) = refl
duty-numbers n w (duty.Reject x) = refl
duty-numbers n w (duty.Restart x) =
    of-task w.tables x _
    (λ y. on-option w.tables (row_at service_id y.service w.tables.services) (restarted n w.tables y)
    (λ s. restarted-nodes n w.tables y s))
duty-numbers n w (duty.Raise x) = refl
duty-numbers n w (duty.Start s) = of-service w.tables s _ (λ v. refl)
duty-numbers n w (duty.Fail s) =
    of-service w.tables s _ (λ v. fail-nodes n w.tables v (may_roll_back v) v.previous)
duty-numbers n w (duty.Swap s k) = of-service w.tables s _ (λ v. refl)
duty-numbers n w (duty.Replace s k) =
    of-service w.tables s _ (λ v. order-nodes n w.tables v k v.spec.update.order)
duty-numbers n w (duty.Finish s) = of-service w.tables s _ (λ v. refl)
duty-numbers n w (duty.Gone x) = refl
duty-numbers n w (duty.Down s k) = of-service w.tables s _ (λ v. refl)
duty-numbers n w (duty.ReplicatedCreate s k) = of-service w.tables s _ (λ v. refl)
duty-numbers n w (duty.Leave s k) = of-service w.tables s _ (λ v. refl)
duty-numbers n w (duty.GlobalCreate s k) = of-service w.tables s _ (λ v. refl)
duty-numbers n w (duty.Old x) = refl
duty-numbers n w (duty.JobCreate s k) = of-service w.tables s _ (λ v. refl)
duty-numbers n w (duty.Port s target udp) =
    ap inside_numbers (port-nodes n w.tables s target udp (free_port w.tables udp))
duty-numbers n w (duty.Address x) = refl
duty-numbers n w (duty.Note x) =
    of-task w.tables x (with_exhausted n w.tables)
    (λ y. on-option w.tables (exhausted_for w.tables y) (λ k. change_task y.id (noted n k) w.tables) (λ k. refl))
duty-numbers n w (duty.Drop x) = refl
duty-numbers n w (duty.Place x m) = refl
duty-numbers n w (duty.Explain x) = refl
duty-numbers n w (duty.Delete x) = refl
duty-numbers n w (duty.Trim x) = refl
duty-numbers n w (duty.Register m) = numbers-change m (ready_node n) w.tables.nodes (λ k h e. (refl, refl))
duty-numbers n w (duty.Beat m) = refl
duty-numbers n w (duty.Apply m) = refl
duty-numbers n w (duty.Pull m) = pull-numbers w m (message_for w m)
duty-numbers n w (duty.Exec m x) = refl
duty-numbers n w (duty.Report m x) = ap inside_numbers (told-nodes n w (executor_at w m x))
duty-numbers n w (duty.Forget m x) = refl

-- Agents.

pull-agents : (w : World) (m : ℕ) (o : Option Message) →
    map agent_node (after_pull w m o).agents ≡ map agent_node w.agents
pull-agents w m None = refl
pull-agents w m (Some message) = agents-change m (received message) w.agents (λ a. refl)

pub duty-agents : (n : ℕ) (w : World) (d : Duty) → map agent_node (effect_by n w d).agents ≡ map agent_node w.agents
duty-agents n w (duty.Register m) = agents-change m begun w.agents (λ a. refl)
duty-agents n w (duty.Apply m) =
    agents-change m (λ a. take_in w.tables.clock a.inbox a) w.agents (λ a. taken-in w.tables.clock a.inbox a)
duty-agents n w (duty.Pull m) = pull-agents w m (message_for w m)
duty-agents n w (duty.Exec m x) =
    agents-change m (λ a. record a { executors = change_executor x (stepped w.tables.clock) a.executors }) w.agents
    (λ a. refl)
duty-agents n w (duty.Report m x) =
    agents-change m (λ a. record a { executors = change_executor x told a.executors }) w.agents (λ a. refl)
duty-agents n w (duty.Forget m x) =
    agents-change m (λ a. record a { executors = drop_row executor_task x a.executors }) w.agents (λ a. refl)
duty-agents n w d = refl
