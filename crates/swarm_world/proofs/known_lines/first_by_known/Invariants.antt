use Rattle.std.specs.Prelude.{◌-◌}
use Rattle.swarm_spans.specs.Spans.{CoversServices}
use Rattle.swarm_world.proofs.known_lines.first_by_known.Given as goal
use Rattle.swarm_world.specs.Inside.Known.{KnowsAll}

abbrev pub invariant-loop-service : goal.invariant-loop-service
invariant-loop-service g l = record {
  covers : CoversServices (g.L.KnownLine.duties) (g.R.Rows.tables l.rows) l.span;
  knows : KnowsAll (g.R.Rows.tables l.rows) l.known;
}

abbrev pub decreases-loop-service : goal.decreases-loop-service
decreases-loop-service g l = l.span.high - l.span.after
