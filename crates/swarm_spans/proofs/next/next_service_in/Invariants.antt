use Rattle.std.specs.Prelude.{◌-◌}
use Rattle.swarm_objects.specs.Rows.{service_id}
use Rattle.swarm_spans.specs.Spans.{AreOut}
use Rattle.swarm_spans.proofs.next.next_service_in.Given as goal

abbrev pub invariant-loop-after : goal.invariant-loop-after
invariant-loop-after g l = AreOut service_id l.span l.after (g.R.Rows.tables l.rows).services

abbrev pub decreases-loop-after : goal.decreases-loop-after
decreases-loop-after g l = l.span.high - l.after
