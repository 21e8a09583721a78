use Rattle.std.proofs.Common.{◌≡◌}
use Rattle.std.specs.Prelude.{flat_map}
use Rattle.swarm_objects.specs.Loops.Scheduler.{schedule, scheduler}
use Rattle.swarm_objects.specs.Rows.{first_of}
use Rattle.swarm_sched.proofs.least.Given as goal
use Rattle.swarm_sched.specs.Inside.KnownNodes.{KnowsNodes}

abbrev pub invariant-loop-task : goal.invariant-loop-task
invariant-loop-task g l =
    let t = g.R.Rows.tables l.rows in
    record {
      first : first_of (flat_map (schedule t) l.task-iterator) ≡ first_of (scheduler t);
      knows : KnowsNodes t l.known;
    }
