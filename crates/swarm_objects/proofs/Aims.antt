-- What is wanted of an executor and whether it is gone: steps and faults leave it, and items that are the same ask the same.
use Rattle.std.proofs.Common.{Bool, None, Option, Some, ap, arith, cond, eqb, false, refl, sym, true, ℕ, ◌∙◌, ◌≡◌}
use Rattle.std.proofs.lemmas.Bool.Decides.{nat_tests}
use Rattle.std.specs.Prelude.{nat_le, ⊤, ◌&&◌, ◌==◌}
use Rattle.swarm_objects.specs.Agents.NodeAgents.{lost}
use Rattle.swarm_objects.specs.Agents.Executors.{at_time, early_step, ending, executor_step, is_early, is_late, is_to_go, late, late_step, moved, stopped_at, wants_to_stop}
use Rattle.swarm_objects.specs.Loops.Agents.{stepped}
use Rattle.swarm_objects.specs.Rows.{on_row}
use Rattle.swarm_objects.specs.declared.agents.Executor.{Executor}
use Rattle.swarm_objects.specs.declared.tasks.TaskState.TheVariants as state
use Rattle.swarm_objects.specs.declared.tasks.TaskState.{TaskState}
use Rattle.swarm_objects.specs.declared.templates.End.TheVariants as end
use Rattle.swarm_objects.specs.declared.templates.End.{End}
use Rattle.swarm_objects.specs.Same.{same_workload}
use Rattle.swarm_objects.specs.Values.Ranks.{desired_rank}
use Rattle.swarm_objects.specs.declared.tasks.Desired.TheVariants as desired
use Rattle.swarm_objects.proofs.Tests.{first_so, second_so}
use Rattle.swarm_objects.specs.Agents.Messages.{same_assigned}
use Rattle.swarm_objects.specs.declared.messages.Assigned.{Assigned}
use Rattle.swarm_objects.specs.declared.tasks.Desired.{Desired}

abbrev pub Aim : Type 0
Aim = Desired × Bool

abbrev pub aim : Executor → Aim
aim e = (e.desired, e.gone)

-- the same task and aim
abbrev pub KeepsAim : Executor → Executor → Type 0
KeepsAim e f = (f.task ≡ e.task) × (aim f ≡ aim e)

abbrev KeepsAimIf : Executor → Option Executor → Type 0
KeepsAimIf e None = ⊤
KeepsAimIf e (Some after) = KeepsAim e after

timed : (clock time : ℕ) (e after : Executor) → KeepsAim e after → KeepsAimIf e (at_time clock time after)
timed clock time e after same = go (nat_le time clock)
  where
    go : (b : Bool) → KeepsAimIf e (cond b (Some after) None)
    go true = same
    go false = tt

early-aim : (clock : ℕ) (e : Executor) (s : TaskState) → KeepsAimIf e (early_step clock e s)
early-aim clock e state.Accepted = (refl, refl)
early-aim clock e state.Preparing = timed clock _ e _ (refl, refl)
early-aim clock e state.Ready = go (is_to_go e.desired)
  where
    go : (b : Bool) → KeepsAimIf e (cond b (Some (moved clock state.Starting e)) None)
    go true = (refl, refl)
    go false = tt
early-aim clock e _ = tt

ending-aim : (clock : ℕ) (e : Executor) (x : End) → KeepsAimIf e (ending clock e x)
ending-aim clock e end.Never = tt
ending-aim clock e (end.Exit time code) = timed clock _ e _ (refl, refl)
ending-aim clock e end.Reject = tt

late-step-aim : (clock : ℕ) (e : Executor) (s : TaskState) → KeepsAimIf e (late_step clock e s)
late-step-aim clock e state.Starting = timed clock _ e _ (refl, refl)
late-step-aim clock e state.Running = ending-aim clock e e.workload.end
late-step-aim clock e _ = tt

late-aim : (clock : ℕ) (e : Executor) (stopping : Option ℕ) → KeepsAimIf e (late clock e stopping)
late-aim clock e (Some time) = timed clock time e _ (refl, refl)
late-aim clock e None = go (wants_to_stop e)
  where
    go : (b : Bool) → KeepsAimIf e (cond b (Some (stopped_at clock e)) (late_step clock e e.state))
    go true = (refl, refl)
    go false = late-step-aim clock e e.state

step-aim : (clock : ℕ) (e : Executor) → KeepsAimIf e (executor_step clock e)
step-aim clock e = go (is_early e.state) (wants_to_stop e) (is_late e.state)
  where
    go : (early stop late_now : Bool) →
        KeepsAimIf e (cond early (cond stop (Some (moved clock state.Shutdown e)) (early_step clock e e.state))
        (cond late_now (late clock e e.stopping) None))
    go true true late_now = (refl, refl)
    go true false late_now = early-aim clock e e.state
    go false stop true = late-aim clock e e.stopping
    go false stop false = tt

pub stepped-aim : (clock : ℕ) (e : Executor) → KeepsAim e (stepped clock e)
stepped-aim clock e = go (executor_step clock e) (step-aim clock e)
  where
    go : (o : Option Executor) → KeepsAimIf e o → KeepsAim e (on_row e (λ after. after) o)
    go None k = (refl, refl)
    go (Some after) k = k

pub lost-aim : (clock : ℕ) (e : Executor) → KeepsAim e (lost clock e)
lost-aim clock e = go (is_late e.state)
  where
    go : (b : Bool) → KeepsAim e (cond b (moved clock state.Failed e) e)
    go true = (refl, refl)
    go false = (refl, refl)

-- a desired state is told by its number
abbrev desired_of : ℕ → Desired
desired_of n =
    cond (eqb n (desired_rank desired.Ready)) desired.Ready
    (cond (eqb n (desired_rank desired.Running)) desired.Running
    (cond (eqb n (desired_rank desired.Complete)) desired.Complete
    (cond (eqb n (desired_rank desired.Shutdown)) desired.Shutdown desired.Remove)))

desired-back : (d : Desired) → desired_of (desired_rank d) ≡ d
desired-back desired.Ready = refl
desired-back desired.Running = refl
desired-back desired.Complete = refl
desired-back desired.Shutdown = refl
desired-back desired.Remove = refl

pub same-desired : (d e : Desired) → desired_rank d ≡ desired_rank e → d ≡ e
same-desired d e same = sym (desired-back d) ∙ ap desired_of same ∙ desired-back e

-- the same task and the same desired state
pub same-aim : (a b : Assigned) → same_assigned a b ≡ true → (b.task ≡ a.task) × (b.desired ≡ a.desired)
same-aim a b e =
    let one : (a.task == b.task && desired_rank a.desired == desired_rank b.desired) ≡ true =
    first_so (a.task == b.task && desired_rank a.desired == desired_rank b.desired)
    (same_workload a.workload b.workload) e in
    let first : (a.task == b.task) ≡ true =
    first_so (a.task == b.task) (desired_rank a.desired == desired_rank b.desired) one in
    let second : (desired_rank a.desired == desired_rank b.desired) ≡ true =
    second_so (a.task == b.task) (desired_rank a.desired == desired_rank b.desired) one in
    let number : a.task ≡ b.task = grind (arith, nat_tests, first) in
    let wanted : desired_rank a.desired ≡ desired_rank b.desired = grind (arith, nat_tests, second) in
    (sym number, same-desired b.desired a.desired (sym wanted))
