use Rattle.std.specs.Prelude.{◌-◌}
use Rattle.swarm_spans.specs.Spans.{CoversServices}
use Rattle.swarm_spans.proofs.first.first_of_services.Given as goal

abbrev pub invariant-loop-service : goal.invariant-loop-service
invariant-loop-service g l = CoversServices g.L.ServiceLine.duties (g.R.Rows.tables l.rows) l.span

abbrev pub decreases-loop-service : goal.decreases-loop-service
decreases-loop-service g l = l.span.high - l.span.after
