use Rattle.swarm_sched.proofs.near.Near.build.Given as goal
use Rattle.swarm_sched.specs.Inside.Nearing.{IsNoting}

abbrev pub invariant-loop-task : goal.invariant-loop-task
invariant-loop-task g l = IsNoting (g.R.Rows.tables l.rows) l.task-iterator l.near
