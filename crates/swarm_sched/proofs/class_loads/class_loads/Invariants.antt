use Rattle.std.specs.Prelude.{filter}
use Rattle.swarm_objects.specs.Tasks.Words.{is_of}
use Rattle.swarm_sched.proofs.class_loads.class_loads.Given as goal
use Rattle.swarm_sched.specs.Inside.ClassLoads.{AreCounting}

abbrev pub invariant-loop-task : goal.invariant-loop-task
invariant-loop-task g l =
    AreCounting l.sorted (filter (is_of l.service) (g.R.Rows.tables l.rows).tasks) l.task-iterator l.loads
