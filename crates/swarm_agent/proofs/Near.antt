-- The times that an agent reckons with stay far from the ends of their types.
use Rattle.std.proofs.Common.{Bool, List, None, Option, Some, [], ap, arith, cond, eqb, false, ltb, not, refl, sym, true, ℕ, ◌<◌, ◌∙◌, ◌∷◌, ◌≡◌}
use Rattle.std.proofs.lemmas.Bool.Decides.{nat_tests}
use Rattle.std.specs.List.{list_all, list_any}
use Rattle.std.specs.Prelude.{fold, map, nat_le, ⊤, ◌&&◌}
use Rattle.swarm_agent.specs.Inside.Near.{AreNear, brings_near}
use Rattle.swarm_objects.specs.Bounds.{has_near_times}
use Rattle.swarm_objects.specs.Agents.NodeAgents.{lost}
use Rattle.swarm_objects.proofs.Tests.{both, both_are}
use Rattle.swarm_objects.specs.Agents.Executors.{at_time, early_step, ending, executor_step, is_early, is_late, is_to_go, late, late_step, moved, stopped_at, wants_to_stop}
use Rattle.swarm_objects.specs.Agents.Messages.{applied, apply_change, change_executor, gone_executor, left_out, names, new_executor, updated}
use Rattle.swarm_objects.specs.Bounds.{far_end, is_near, is_near_change, is_near_workload}
use Rattle.swarm_objects.specs.Loops.Agents.{stepped, told}
use Rattle.swarm_objects.specs.Rows.{drop_row, executor_task, has_row, on_row, with_row}
use Rattle.swarm_objects.specs.declared.agents.Executor.{Executor}
use Rattle.swarm_objects.specs.declared.messages.AssignChange.TheVariants as assign
use Rattle.swarm_objects.specs.declared.messages.AssignChange.{AssignChange}
use Rattle.swarm_objects.specs.declared.messages.Assigned.{Assigned}
use Rattle.swarm_objects.specs.declared.messages.Message.{Message}
use Rattle.swarm_objects.specs.declared.tasks.TaskState.TheVariants as state
use Rattle.swarm_objects.specs.declared.tasks.TaskState.{TaskState}
use Rattle.swarm_objects.specs.declared.templates.End.TheVariants as end
use Rattle.swarm_objects.specs.declared.templates.End.{End}

abbrev all_near : List Executor → Bool
all_near es = list_all has_near_times es

-- One step.

-- where there is a step, the executor has its workload, and this time
abbrev BeganAt : ℕ → Executor → Option Executor → Type 0
BeganAt clock e None = ⊤
BeganAt clock e (Some after) = (after.workload ≡ e.workload) × (after.since ≡ clock)

timed : (clock time : ℕ) (e after : Executor) → BeganAt clock e (Some after) → BeganAt clock e (at_time clock time after)
timed clock time e after is = go (nat_le time clock)
  where
    go : (b : Bool) → BeganAt clock e (cond b (Some after) None)
    go true = is
    go false = tt

early-began : (clock : ℕ) (e : Executor) (s : TaskState) → BeganAt clock e (early_step clock e s)
early-began clock e state.Accepted = (refl, refl)
early-began clock e state.Preparing = timed clock _ e _ (refl, refl)
early-began clock e state.Ready = go (is_to_go e.desired)
  where
    go : (b : Bool) → BeganAt clock e (cond b (Some (moved clock state.Starting e)) None)
    go true = (refl, refl)
    go false = tt
early-began clock e _ = tt

ending-began : (clock : ℕ) (e : Executor) (x : End) → BeganAt clock e (ending clock e x)
ending-began clock e end.Never = tt
ending-began clock e (end.Exit time code) = timed clock _ e _ (refl, refl)
ending-began clock e end.Reject = tt

late-step-began : (clock : ℕ) (e : Executor) (s : TaskState) → BeganAt clock e (late_step clock e s)
late-step-began clock e state.Starting = timed clock _ e _ (refl, refl)
late-step-began clock e state.Running = ending-began clock e e.workload.end
late-step-began clock e _ = tt

late-began : (clock : ℕ) (e : Executor) (stopping : Option ℕ) → BeganAt clock e (late clock e stopping)
late-began clock e (Some time) = timed clock time e _ (refl, refl)
late-began clock e None = go (wants_to_stop e)
  where
    go : (b : Bool) → BeganAt clock e (cond b (Some (stopped_at clock e)) (late_step clock e e.state))
    go true = (refl, refl)
    go false = late-step-began clock e e.state

step-began : (clock : ℕ) (e : Executor) → BeganAt clock e (executor_step clock e)
step-began clock e = go (is_early e.state) (wants_to_stop e) (is_late e.state)
  where
    go : (early stop late_now : Bool) →
        BeganAt clock e (cond early (cond stop (Some (moved clock state.Shutdown e)) (early_step clock e e.state))
        (cond late_now (late clock e e.stopping) None))
    go true true late_now = (refl, refl)
    go true false late_now = early-began clock e e.state
    go false stop true = late-began clock e e.stopping
    go false stop false = tt

-- the same workload, with a near time
at-near : (e after : Executor) → after.workload ≡ e.workload → is_near after.since ≡ true → has_near_times e ≡ true →
    has_near_times after ≡ true
at-near e after work time near =
    both (is_near_workload after.workload) (is_near after.since)
    (ap is_near_workload work ∙ (both_are (is_near_workload e.workload) (is_near e.since) near).0) time

near-clock : (clock : ℕ) → clock < far_end → is_near clock ≡ true
near-clock clock lt = grind (arith, nat_tests, lt)

stepped-near : (clock : ℕ) (e : Executor) → clock < far_end → has_near_times e ≡ true →
    has_near_times (stepped clock e) ≡ true
stepped-near clock e lt near = go (executor_step clock e) (step-began clock e)
  where
    go : (o : Option Executor) → BeganAt clock e o → has_near_times (on_row e (λ after. after) o) ≡ true
    go None is = near
    go (Some after) is = at-near e after is.0 (ap is_near is.1 ∙ near-clock clock lt) near

lost-near : (e : Executor) → has_near_times e ≡ true → has_near_times (lost 0 e) ≡ true
lost-near e near = go (is_late e.state)
  where
    go : (b : Bool) → has_near_times (cond b (moved 0 state.Failed e) e) ≡ true
    go true = at-near e (moved 0 state.Failed e) refl refl near
    go false = near

-- Lists.

each-near : (f : Executor → Executor) (es : List Executor) →
    ((e : Executor) → has_near_times e ≡ true → has_near_times (f e) ≡ true) → all_near es ≡ true →
    all_near (map f es) ≡ true
each-near f [] same near = refl
each-near f (e ∷ es) same near =
    let is = both_are (has_near_times e) (all_near es) near in
    both (has_near_times (f e)) (all_near (map f es)) (same e is.0) (each-near f es same is.1)

change-near : (task : ℕ) (f : Executor → Executor) (es : List Executor) →
    ((e : Executor) → has_near_times e ≡ true → has_near_times (f e) ≡ true) → all_near es ≡ true →
    all_near (change_executor task f es) ≡ true
change-near task f es same near =
    each-near (λ e. cond (eqb e.task task) (f e) e) es (λ e is. go e is (eqb e.task task)) near
  where
    go : (e : Executor) → has_near_times e ≡ true → (b : Bool) → has_near_times (cond b (f e) e) ≡ true
    go e is true = same e is
    go e is false = is

put-near : (new : Executor) (es : List Executor) → has_near_times new ≡ true → all_near es ≡ true →
    all_near (with_row executor_task new es) ≡ true
put-near new [] is near = both (has_near_times new) true is refl
put-near new (e ∷ es) is near =
    let here = both_are (has_near_times e) (all_near es) near in
    go here.0 here.1 (ltb new.task e.task) (eqb new.task e.task) (put-near new es is here.1)
  where
    go : has_near_times e ≡ true → all_near es ≡ true → (a b : Bool) → all_near (with_row executor_task new es) ≡ true →
        all_near (cond a (new ∷ e ∷ es) (cond b (new ∷ es) (e ∷ with_row executor_task new es))) ≡ true
    go first others true b rest = both (has_near_times new) (all_near (e ∷ es)) is near
    go first others false true rest = both (has_near_times new) (all_near es) is others
    go first others false false rest = both (has_near_times e) (all_near (with_row executor_task new es)) first rest

drop-near : (task : ℕ) (es : List Executor) → all_near es ≡ true → all_near (drop_row executor_task task es) ≡ true
drop-near task [] near = refl
drop-near task (e ∷ es) near =
    let is = both_are (has_near_times e) (all_near es) near in go is.0 (eqb e.task task) (drop-near task es is.1)
  where
    go : has_near_times e ≡ true → (b : Bool) → all_near (drop_row executor_task task es) ≡ true →
        all_near (cond (not b) (e ∷ drop_row executor_task task es) (drop_row executor_task task es)) ≡ true
    go first true rest = rest
    go first false rest = both (has_near_times e) (all_near (drop_row executor_task task es)) first rest

-- Messages.

updated-near : (es : List Executor) (a : Assigned) → is_near_workload a.workload ≡ true → all_near es ≡ true →
    all_near (updated 0 es a) ≡ true
updated-near es a work near = go (has_row executor_task a.task es)
  where
    go : (b : Bool) →
        all_near (cond b (change_executor a.task (λ e. record e { desired = a.desired }) es)
        (with_row executor_task (new_executor 0 a) es)) ≡ true
    go true = change-near a.task (λ e. record e { desired = a.desired }) es (λ e is. is) near
    go false = put-near (new_executor 0 a) es (both (is_near_workload a.workload) true work refl) near

changed-near : (es : List Executor) (c : AssignChange) → is_near_change c ≡ true → all_near es ≡ true →
    all_near (apply_change 0 es c) ≡ true
changed-near es (assign.Update a) is near = updated-near es a is near
changed-near es (assign.Remove task) is near = change-near task gone_executor es (λ e here. here) near

all-changed-near : (cs : List AssignChange) (es : List Executor) → list_all is_near_change cs ≡ true →
    all_near es ≡ true → all_near (fold (apply_change 0) es cs) ≡ true
all-changed-near [] es is near = near
all-changed-near (c ∷ cs) es is near =
    let here = both_are (is_near_change c) (list_all is_near_change cs) is in
    all-changed-near cs (apply_change 0 es c) here.1 (changed-near es c here.0 near)

applied-near : (m : Message) (es : List Executor) → brings_near m ≡ true → all_near es ≡ true →
    all_near (applied 0 m es) ≡ true
applied-near m es is near =
    each-near (left_out m) (fold (apply_change 0) es m.changes)
    (λ e here. go e here (m.complete && not (list_any (names e.task) m.changes)))
    (all-changed-near m.changes es is near)
  where
    go : (e : Executor) → has_near_times e ≡ true → (b : Bool) → has_near_times (cond b (gone_executor e) e) ≡ true
    go e here true = here
    go e here false = here

-- Calls.

abbrev Keeps : (List Executor → List Executor) → Type 0
Keeps change = (es : List Executor) (o : Option Message) → AreNear es o → AreNear (change es) o

kept : (change : List Executor → List Executor) → ((es : List Executor) → all_near es ≡ true → all_near (change es) ≡ true) →
    Keeps change
kept change same es o are = record { executors = same es are.executors; inbox = are.inbox }

pub near-emptied : (es : List Executor) (o : Option Message) → AreNear es o → AreNear es None
near-emptied es o are = record { executors = are.executors; inbox = refl }

pub near-received : (es : List Executor) (o : Option Message) (m : Message) → AreNear es o →
    list_all is_near_change m.changes ≡ true → AreNear es (Some m)
near-received es o m are near = record { executors = are.executors; inbox = near }

pub near-applied : (es : List Executor) (o : Option Message) (m : Message) → AreNear es o → o ≡ Some m →
    AreNear (applied 0 m es) None
near-applied es o m are is = record {
  executors = applied-near m es (sym (ap (on_row true brings_near) is) ∙ are.inbox) are.executors;
  inbox = refl;
}

pub near-stepped : (clock task : ℕ) → clock < far_end → Keeps (change_executor task (stepped clock))
near-stepped clock task lt =
    kept (change_executor task (stepped clock)) (λ es. change-near task (stepped clock) es (λ e. stepped-near clock e lt))

pub near-told : (task : ℕ) → Keeps (change_executor task told)
near-told task = kept (change_executor task told) (λ es. change-near task told es (λ e is. is))

pub near-forgotten : (task : ℕ) → Keeps (drop_row executor_task task)
near-forgotten task = kept (drop_row executor_task task) (drop-near task)

pub near-lost : Keeps (map (lost 0))
near-lost = kept (map (lost 0)) (λ es. each-near (lost 0) es lost-near)
