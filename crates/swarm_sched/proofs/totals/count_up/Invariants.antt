use Rattle.swarm_objects.specs.Nodes.Holdings.{tasks_placed_on}
use Rattle.swarm_sched.proofs.totals.count_up.Given as goal
use Rattle.swarm_sched.specs.Inside.Totals.{AreLeft}

abbrev pub invariant-loop-task : goal.invariant-loop-task
invariant-loop-task g l =
    AreLeft l.service l.totals l.here l.task-iterator (tasks_placed_on (g.R.Rows.tables l.rows) l.node)
