-- A step of an executor leaves it less.
use Rattle.std.proofs.Common.{Bool, None, Option, Some, ap, arith, cond, false, refl, true, ℕ, ◌+◌, ◌*◌, ◌≡◌, ◌≤◌}
use Rattle.std.specs.Prelude.{is_some, nat_le, ⊤, ◌==◌}
use Rattle.swarm_settle.proofs.Bound.Positions.{bit-most}
use Rattle.swarm_settle.specs.Bound.Left.{executor_left, steps_left}
use Rattle.swarm_objects.specs.Agents.Executors.{at_time, early_step, ending, executor_step, exited, is_early, is_late, is_to_go, late, moved, prepared, rejects, wants_to_stop}
use Rattle.swarm_objects.specs.Kinds.{bit}
use Rattle.swarm_objects.specs.Loops.Agents.{has_step, is_news, stepped}
use Rattle.swarm_objects.specs.Rows.{on_row}
use Rattle.swarm_objects.specs.declared.agents.Executor.{Executor}
use Rattle.swarm_objects.specs.declared.tasks.TaskState.TheVariants as state
use Rattle.swarm_objects.specs.declared.tasks.TaskState.{TaskState}
use Rattle.swarm_objects.specs.declared.templates.End.TheVariants as end
use Rattle.swarm_objects.specs.declared.templates.End.{End}

-- this much before it, or less
abbrev Under : ℕ → Executor → Type 0
Under n f = executor_left f + 1 ≤ n

-- what the step gives, if it gives something, has less than this
abbrev Falls : ℕ → Option Executor → Type 0
Falls n None = ⊤
Falls n (Some f) = Under n f

-- moved to a state with fewer steps before it
moved-under : (clock k : ℕ) (e : Executor) (s : TaskState) (b : Bool) → steps_left e.stopping s + 1 ≤ k →
    Under (2 * k + bit b + 1) (moved clock s e)
moved-under clock k e s b less = omega (arith, less, bit-most (is_news s e.reported))

falls-at_time : (n clock time : ℕ) (f : Executor) → Under n f → Falls n (at_time clock time f)
falls-at_time n clock time f less = go (nat_le time clock)
  where
    go : (b : Bool) → Falls n (cond b (Some f) None)
    go true = less
    go false = tt

falls-if : (n : ℕ) (b : Bool) (x y : Option Executor) → (b ≡ true → Falls n x) → (b ≡ false → Falls n y) →
    Falls n (cond b x y)
falls-if n true x y f g = f refl
falls-if n false x y f g = g refl

-- Steps before the last ones.

shut-none : (k : Option ℕ) → steps_left k state.Shutdown ≡ 0
shut-none None = refl
shut-none (Some time) = refl

prepared-few : (k : Option ℕ) (e : End) → steps_left k (prepared e) ≤ 4
prepared-few k e = go k (rejects e)
  where
    go : (j : Option ℕ) (b : Bool) → steps_left j (cond b state.Rejected state.Ready) ≤ 4
    go None true = omega arith
    go None false = omega arith
    go (Some time) true = omega arith
    go (Some time) false = omega arith

starting-few : (k : Option ℕ) → steps_left k state.Starting ≤ 3
starting-few None = omega arith
starting-few (Some time) = omega arith

running-few : (k : Option ℕ) → steps_left k state.Running ≤ 2
running-few None = omega arith
running-few (Some time) = omega arith

exited-none : (k : Option ℕ) (code : ℕ) → steps_left k (exited code) ≡ 0
exited-none k code = go k (code == 0)
  where
    go : (j : Option ℕ) (b : Bool) → steps_left j (cond b state.Complete state.Failed) ≡ 0
    go None true = refl
    go None false = refl
    go (Some time) true = refl
    go (Some time) false = refl

-- By its state, with what it reported.

abbrev left_in : Executor → Option ℕ → TaskState → ℕ
left_in e k s = 2 * steps_left k s + bit (is_news s e.reported) + 1

early-falls : (clock : ℕ) (e : Executor) (k : Option ℕ) (s : TaskState) → is_early s ≡ true →
    Falls (left_in e k s) (cond (wants_to_stop e) (Some (moved clock state.Shutdown e)) (early_step clock e s))
early-falls clock e k state.Accepted early =
    falls-if _ (wants_to_stop e) _ _
    (λ stops. moved-under clock 6 e state.Shutdown _ (omega (arith, shut-none e.stopping)))
    (λ goes. moved-under clock 6 e state.Preparing _ (omega arith))
early-falls clock e k state.Preparing early =
    falls-if _ (wants_to_stop e) _ _
    (λ stops. moved-under clock 5 e state.Shutdown _ (omega (arith, shut-none e.stopping)))
    (λ goes. falls-at_time _ clock (e.since + e.workload.prepare) _
    (moved-under clock 5 e (prepared e.workload.end) _ (omega (arith, prepared-few e.stopping e.workload.end))))
early-falls clock e k state.Ready early =
    falls-if _ (wants_to_stop e) _ _
    (λ stops. moved-under clock 4 e state.Shutdown _ (omega (arith, shut-none e.stopping)))
    (λ goes. falls-if _ (is_to_go e.desired) _ _
    (λ go. moved-under clock 4 e state.Starting _ (omega (arith, starting-few e.stopping))) (λ waits. tt))
early-falls clock e k _ early = absurd cc

ending-falls : (clock n : ℕ) (e : Executor) (b : Bool) (x : End) → 1 ≤ n → Falls (2 * n + bit b + 1) (ending clock e x)
ending-falls clock n e b end.Never some = tt
ending-falls clock n e b (end.Exit time code) some =
    falls-at_time _ clock (e.since + time) _
    (moved-under clock n e (exited code) b (omega (arith, exited-none e.stopping code, some)))
ending-falls clock n e b end.Reject some = tt

late-falls : (clock : ℕ) (e : Executor) (k : Option ℕ) (s : TaskState) → e.stopping ≡ k → e.state ≡ s →
    is_late s ≡ true → Falls (left_in e k s) (late clock e k)
late-falls clock e (Some time) state.Starting stopping is lates =
    falls-at_time _ clock time _ (moved-under clock 1 e state.Shutdown _ (omega (arith, shut-none e.stopping)))
late-falls clock e (Some time) state.Running stopping is lates =
    falls-at_time _ clock time _ (moved-under clock 1 e state.Shutdown _ (omega (arith, shut-none e.stopping)))
late-falls clock e None state.Starting stopping is lates =
    falls-if _ (wants_to_stop e) _ _
    (λ stops. omega (
      arith,
      ap (λ (z : TaskState). steps_left (Some (clock + e.workload.stop)) z) is,
      ap (λ (z : TaskState). bit (is_news z e.reported)) is,
    ))
    (λ goes. rw is (falls-at_time (left_in e None state.Starting) clock (e.since + e.workload.start) (moved clock state.Running e)
    (moved-under clock 3 e state.Running _ (omega (arith, running-few e.stopping)))))
late-falls clock e None state.Running stopping is lates =
    falls-if _ (wants_to_stop e) _ _
    (λ stops. omega (
      arith,
      ap (λ (z : TaskState). steps_left (Some (clock + e.workload.stop)) z) is,
      ap (λ (z : TaskState). bit (is_news z e.reported)) is,
    ))
    (λ goes. rw is (ending-falls clock 2 e _ e.workload.end (omega arith)))
late-falls clock e (Some time) _ stopping is lates = absurd cc
late-falls clock e None _ stopping is lates = absurd cc

pub step-falls : (clock : ℕ) (e : Executor) → Falls (executor_left e) (executor_step clock e)
step-falls clock e =
    falls-if (executor_left e) (is_early e.state) _ _ (λ early. early-falls clock e e.stopping e.state early)
    (λ not_early. falls-if (executor_left e) (is_late e.state) _ _
    (λ lates. late-falls clock e e.stopping e.state refl refl lates) (λ over. tt))

-- A step that is due leaves it less, and else it stays.

pub stepped-falls : (clock : ℕ) (e : Executor) → has_step clock e ≡ true →
    executor_left (stepped clock e) + 1 ≤ executor_left e
stepped-falls clock e has = go (executor_step clock e) (step-falls clock e) has
  where
    go : (o : Option Executor) → Falls (executor_left e) o → is_some o ≡ true →
        executor_left (on_row e (λ after. after) o) + 1 ≤ executor_left e
    go None less t = absurd cc
    go (Some f) less t = less

pub stepped-stays : (clock : ℕ) (e : Executor) → executor_left (stepped clock e) ≤ executor_left e
stepped-stays clock e = go (executor_step clock e) (step-falls clock e)
  where
    go : (o : Option Executor) → Falls (executor_left e) o →
        executor_left (on_row e (λ after. after) o) ≤ executor_left e
    go None less = omega arith
    go (Some f) less = omega (arith, less)
