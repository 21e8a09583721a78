-- An executor that has a step has one at each later time, if it doesn't make it.
use Rattle.std.proofs.Common.{Bool, None, Option, Some, arith, cond, false, refl, true, ℕ, ◌≡◌, ◌≤◌, ◌+◌}
use Rattle.std.proofs.lemmas.Bool.Decides.{nat_tests}
use Rattle.std.specs.Prelude.{is_some, nat_le}
use Rattle.swarm_objects.specs.Agents.Executors.{at_time, early_step, ending, exited, is_early, is_late, is_to_go, late, late_step, moved, prepared, stopped_at, wants_to_stop}
use Rattle.swarm_objects.specs.Loops.Agents.{has_step}
use Rattle.swarm_objects.specs.declared.agents.Executor.{Executor}
use Rattle.swarm_objects.specs.declared.tasks.TaskState.TheVariants as state
use Rattle.swarm_objects.specs.declared.tasks.TaskState.{TaskState}
use Rattle.swarm_objects.specs.declared.templates.End.TheVariants as end
use Rattle.swarm_objects.specs.declared.templates.End.{End}

-- the step of which the time has come by the first clock, by the second one too
reached : (c d time : ℕ) (a b : Executor) → c ≤ d → is_some (at_time c time a) ≡ true → is_some (at_time d time b) ≡ true
reached c d time a b le some = go (nat_le time c) refl (nat_le time d) refl some
  where
    go : (p : Bool) → nat_le time c ≡ p → (q : Bool) → nat_le time d ≡ q → is_some (cond p (Some a) None) ≡ true →
        is_some (cond q (Some b) None) ≡ true
    go true now true later some = refl
    go true now false later some = absurd (let wrong : true ≡ false = grind (arith, nat_tests, le, now, later) in cc)
    go false now q later some = absurd cc

early-later : (c d : ℕ) (e : Executor) (s : TaskState) → c ≤ d → is_some (early_step c e s) ≡ true →
    is_some (early_step d e s) ≡ true
early-later c d e state.Accepted le some = refl
early-later c d e state.Preparing le some =
    reached c d (e.since + e.workload.prepare) (moved c (prepared e.workload.end) e) (moved d (prepared e.workload.end) e)
    le some
early-later c d e state.Ready le some = go (is_to_go e.desired) some
  where
    go : (b : Bool) → is_some (cond b (Some (moved c state.Starting e)) None) ≡ true →
        is_some (cond b (Some (moved d state.Starting e)) None) ≡ true
    go true some = refl
    go false some = absurd cc
early-later c d e _ le some = absurd cc

ending-later : (c d : ℕ) (e : Executor) (by : End) → c ≤ d → is_some (ending c e by) ≡ true →
    is_some (ending d e by) ≡ true
ending-later c d e end.Never le some = absurd cc
ending-later c d e (end.Exit time code) le some =
    reached c d (e.since + time) (moved c (exited code) e) (moved d (exited code) e) le some
ending-later c d e end.Reject le some = absurd cc

late-later : (c d : ℕ) (e : Executor) (s : TaskState) → c ≤ d → is_some (late_step c e s) ≡ true →
    is_some (late_step d e s) ≡ true
late-later c d e state.Starting le some =
    reached c d (e.since + e.workload.start) (moved c state.Running e) (moved d state.Running e) le some
late-later c d e state.Running le some = ending-later c d e e.workload.end le some
late-later c d e _ le some = absurd cc

stopping-later : (c d : ℕ) (e : Executor) (o : Option ℕ) → c ≤ d → is_some (late c e o) ≡ true →
    is_some (late d e o) ≡ true
stopping-later c d e (Some time) le some =
    reached c d time (moved c state.Shutdown e) (moved d state.Shutdown e) le some
stopping-later c d e None le some = go (wants_to_stop e) some
  where
    go : (b : Bool) → is_some (cond b (Some (stopped_at c e)) (late_step c e e.state)) ≡ true →
        is_some (cond b (Some (stopped_at d e)) (late_step d e e.state)) ≡ true
    go true some = refl
    go false some = late-later c d e e.state le some

pub step-later : (c d : ℕ) (e : Executor) → c ≤ d → has_step c e ≡ true → has_step d e ≡ true
step-later c d e le some = go (is_early e.state) (wants_to_stop e) (is_late e.state) some
  where
    go : (a b l : Bool) →
        is_some (cond a (cond b (Some (moved c state.Shutdown e)) (early_step c e e.state)) (cond l (late c e e.stopping) None))
        ≡ true →
        is_some (cond a (cond b (Some (moved d state.Shutdown e)) (early_step d e e.state)) (cond l (late d e e.stopping) None))
        ≡ true
    go true true l some = refl
    go true false l some = early-later c d e e.state le some
    go false b true some = stopping-later c d e e.stopping le some
    go false b false some = absurd cc
