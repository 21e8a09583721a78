use Rattle.std.specs.Prelude.{◌-◌}
use Rattle.swarm_spans.specs.Grown.{AddingOnDown}
use Rattle.swarm_spans.proofs.adding.tasks_on_down.Given as goal

abbrev pub invariant-loop-node : goal.invariant-loop-node
invariant-loop-node g l = AddingOnDown (g.R.Rows.tables l.rows) l.left l.span

abbrev pub decreases-loop-node : goal.decreases-loop-node
decreases-loop-node g l = l.left.high - l.left.after
