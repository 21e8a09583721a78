use Rattle.std.proofs.Common.{Some, ap, rules, sym, ◌∙◌, ◌∷◌, ◌≡◌}
use Rattle.std.specs.Prelude.{flat_map}
use Rattle.swarm_objects.proofs.WalkLemmas.{first_left}
use Rattle.swarm_objects.specs.Loops.Scheduler.{schedule}
use Rattle.swarm_objects.specs.Rows.{first_of}
use Rattle.swarm_sched.proofs.least.Goals as goal

pub returns-in-Some-schedule : goal.returns-in-Some-schedule
returns-in-Some-schedule g c =
    let t = g.R.Rows.tables c.args.rows.now in
    let found : Some c.in-Some-schedule.duty ≡ first_of (schedule t c.in-Some.task.now) = search rules in
    let step : c.loop-task.task-iterator ≡ c.in-Some.task.now ∷ c.next.new.self = search rules in
    first_left (schedule t c.in-Some.task.now) (flat_map (schedule t) c.next.new.self) c.in-Some-schedule.duty found
    ∙ sym (ap (λ tasks. first_of (flat_map (schedule t) tasks)) step)
    ∙ c.loop-task.invariant.first
