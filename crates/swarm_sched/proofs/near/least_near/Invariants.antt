use Rattle.std.proofs.Common.{drop, ◌≡◌}
use Rattle.std.specs.Prelude.{flat_map}
use Rattle.swarm_objects.specs.Loops.Scheduler.{scheduler}
use Rattle.swarm_objects.specs.Rows.{first_of}
use Rattle.swarm_sched.proofs.near.least_near.Given as goal
use Rattle.swarm_sched.specs.Inside.Nearing.{schedule_at}

abbrev pub invariant-loop-id : goal.invariant-loop-id
invariant-loop-id g l =
    let t = g.R.Rows.tables l.rows in
    first_of (flat_map (schedule_at t) (drop l.id-index l.waiting)) ≡ first_of (scheduler t)
