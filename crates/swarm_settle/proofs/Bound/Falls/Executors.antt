-- A step of an executor makes the measure smaller.
use Rattle.std.proofs.Common.{Bool, List, None, Option, Some, ap, arith, cond, false, refl, true, ℕ, ◌+◌, ◌∙◌, ◌≡◌, ◌≤◌}
use Rattle.std.specs.Prelude.{nat_le, not, ⊤}
use Rattle.swarm_settle.proofs.Bound.AgentParts.{inbox-stays}
use Rattle.swarm_settle.proofs.Bound.ExecutorSteps.{stepped-falls, stepped-stays}
use Rattle.swarm_settle.proofs.Bound.Falls.Rows.{and-changed, has-changed}
use Rattle.swarm_settle.proofs.Bound.Sums.{row-falls, changed-le, sum-le}
use Rattle.swarm_settle.specs.Bound.Left.{agent_left, executes, executor_left, has_executor, inbox_left, task_left}
use Rattle.swarm_settle.specs.Bound.Measure.{measure}
use Rattle.swarm_model.proofs.Base.IsDuty.{IsDuty}
use Rattle.swarm_objects.specs.Agents.Executors.{early_step, ending, executor_step, is_early, is_late, is_to_go, late, late_step, wants_to_stop}
use Rattle.swarm_objects.specs.Agents.Messages.{change_executor}
use Rattle.swarm_objects.specs.Kinds.{bit}
use Rattle.swarm_objects.specs.Loops.Agents.{after_exec, change_executors, stepped}
use Rattle.swarm_objects.specs.Rows.{Has, agent_node, change_row, executor_task, is_row_and, is_some_and, on_row}
use Rattle.swarm_objects.specs.World.{World}
use Rattle.swarm_objects.specs.declared.agents.Executor.{Executor}
use Rattle.swarm_objects.specs.declared.agents.NodeAgent.{NodeAgent}
use Rattle.swarm_objects.specs.declared.duties.Duty.TheVariants as duty
use Rattle.swarm_objects.specs.declared.tasks.Task.{Task}
use Rattle.swarm_objects.specs.declared.tasks.TaskState.TheVariants as state
use Rattle.swarm_objects.specs.declared.tasks.TaskState.{TaskState}
use Rattle.swarm_objects.specs.declared.templates.End.TheVariants as end
use Rattle.swarm_objects.specs.declared.templates.End.{End}

-- A step keeps the executor's task.

abbrev KeepsTask : Executor → Option Executor → Type 0
KeepsTask e None = ⊤
KeepsTask e (Some f) = f.task ≡ e.task

keeps-if : (e : Executor) (b : Bool) (x y : Option Executor) → KeepsTask e x → KeepsTask e y → KeepsTask e (cond b x y)
keeps-if e true x y k l = k
keeps-if e false x y k l = l

early-keeps : (clock : ℕ) (e : Executor) (s : TaskState) → KeepsTask e (early_step clock e s)
early-keeps clock e state.Accepted = refl
early-keeps clock e state.Preparing = keeps-if e (nat_le (e.since + e.workload.prepare) clock) _ _ refl tt
early-keeps clock e state.Ready = keeps-if e (is_to_go e.desired) _ _ refl tt
early-keeps clock e _ = tt

ending-keeps : (clock : ℕ) (e : Executor) (x : End) → KeepsTask e (ending clock e x)
ending-keeps clock e end.Never = tt
ending-keeps clock e (end.Exit time code) = keeps-if e (nat_le (e.since + time) clock) _ _ refl tt
ending-keeps clock e end.Reject = tt

late-keeps : (clock : ℕ) (e : Executor) (s : TaskState) → KeepsTask e (late_step clock e s)
late-keeps clock e state.Starting = keeps-if e (nat_le (e.since + e.workload.start) clock) _ _ refl tt
late-keeps clock e state.Running = ending-keeps clock e e.workload.end
late-keeps clock e _ = tt

stop-keeps : (clock : ℕ) (e : Executor) (o : Option ℕ) → KeepsTask e (late clock e o)
stop-keeps clock e (Some time) = keeps-if e (nat_le time clock) _ _ refl tt
stop-keeps clock e None = keeps-if e (wants_to_stop e) _ _ refl (late-keeps clock e e.state)

step-keeps : (clock : ℕ) (e : Executor) → KeepsTask e (executor_step clock e)
step-keeps clock e =
    keeps-if e (is_early e.state) _ _ (keeps-if e (wants_to_stop e) _ _ refl (early-keeps clock e e.state))
    (keeps-if e (is_late e.state) _ _ (stop-keeps clock e e.stopping) tt)

pub stepped-task : (clock : ℕ) (e : Executor) → (stepped clock e).task ≡ e.task
stepped-task clock e = go (executor_step clock e) (step-keeps clock e)
  where
    go : (o : Option Executor) → KeepsTask e o → (on_row e (λ after. after) o).task ≡ e.task
    go None k = refl
    go (Some f) k = k

-- Agents with other executors of the same tasks.

pub tasks-executed : (w : World) (agents : List NodeAgent) (x : Task) →
    has_executor (record w { agents = agents }) x ≡ has_executor w x →
    task_left (record w { agents = agents }) x ≤ task_left w x
tasks-executed w agents x same = omega (arith, ap (λ (b : Bool). bit (not b)) same)

still-executes : (g : Executor → Executor) (task other : ℕ) (a : NodeAgent) → ((e : Executor) → (g e).task ≡ e.task) →
    executes other (record a { executors = change_executor task g a.executors }) ≡ executes other a
still-executes g task other a keeps = has-changed executor_task other task g a.executors keeps

executed-same : (g : Executor → Executor) (task node other : ℕ) (agents : List NodeAgent) (o : Option ℕ) →
    ((e : Executor) → (g e).task ≡ e.task) →
    is_some_and (is_row_and agent_node (executes other) (change_row agent_node node
    (λ a. record a { executors = change_executor task g a.executors }) agents)) o
    ≡ is_some_and (is_row_and agent_node (executes other) agents) o
executed-same g task node other agents None keeps = refl
executed-same g task node other agents (Some k) keeps =
    and-changed agent_node (executes other) (λ a. record a { executors = change_executor task g a.executors })
    agents node k (λ a. refl) (λ a. still-executes g task other a keeps)

-- one of the agent's executors has less before it, and none more
pub falls-executor : (m : ℕ) (w : World) (node task : ℕ) (g : Executor → Executor) →
    ((e : Executor) → (g e).task ≡ e.task) → ((e : Executor) → executor_left (g e) ≤ executor_left e) →
    (a : NodeAgent) → Has w.agents a → a.node ≡ node → (e : Executor) → Has a.executors e → e.task ≡ task →
    executor_left (g e) + 1 ≤ executor_left e →
    measure m (change_executors node (change_executor task g) w) + 1 ≤ measure m w
falls-executor m w node task g keeps least a there at e has is less =
    let f = λ (b : NodeAgent). record b { executors = change_executor task g b.executors } in
    let v = change_executors node (change_executor task g) w in
    let tasks = sum-le (task_left v) (task_left w) w.tables.tasks
    (λ x h. tasks-executed w v.agents x (executed-same g task node x.id w.agents x.node keeps)) in
    let inbox : (b : NodeAgent) → inbox_left v (f b) ≤ inbox_left w b =
    λ b. inbox-stays w v b (f b) (λ id e. e) refl (λ other e. still-executes g task other b keeps ∙ e) in
    let stays : (b : NodeAgent) → agent_left v (f b) ≤ agent_left w b =
    λ b. omega (
      arith,
      inbox b,
      changed-le executor_task task executor_left executor_left g b.executors (λ d h i. least d) (λ d h. omega arith),
    ) in
    let one : agent_left v (f a) + 1 ≤ agent_left w a =
    omega (
      arith,
      inbox a,
      row-falls executor_task task executor_left executor_left g 1 a.executors e has is less (λ d h i. least d)
          (λ d h. omega arith),
    ) in
    let agents = row-falls agent_node node (agent_left v) (agent_left w) f 1 w.agents a there at one (λ b h i. stays b)
    (λ b h. omega arith) in
    omega (arith, tasks, agents)

pub falls-exec : (m : ℕ) (w : World) (node task : ℕ) → IsDuty w (duty.Exec node task) →
    measure m (after_exec w node task) + 1 ≤ measure m w
falls-exec m w node task of =
    let clock = w.tables.clock in
    let e = of.fact.1 in
    falls-executor m w node task (stepped clock) (λ d. stepped-task clock d) (λ d. stepped-stays clock d)
    of.row of.there of.id_is e.row e.there e.id_is (stepped-falls clock e.row e.fact)
