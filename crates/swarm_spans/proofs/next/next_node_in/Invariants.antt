use Rattle.std.specs.Prelude.{◌-◌}
use Rattle.swarm_objects.specs.Rows.{node_id}
use Rattle.swarm_spans.specs.Spans.{AreOut}
use Rattle.swarm_spans.proofs.next.next_node_in.Given as goal

abbrev pub invariant-loop-after : goal.invariant-loop-after
invariant-loop-after g l = AreOut node_id l.span l.after (g.R.Rows.tables l.rows).nodes

abbrev pub decreases-loop-after : goal.decreases-loop-after
decreases-loop-after g l = l.span.high - l.after
