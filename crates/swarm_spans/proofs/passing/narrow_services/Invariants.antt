use Rattle.std.specs.Prelude.{◌-◌}
use Rattle.swarm_objects.specs.Rows.{service_id}
use Rattle.swarm_spans.specs.Spans.{Covers, is_left_out}
use Rattle.swarm_spans.proofs.passing.narrow_services.Given as goal
use Rattle.swarm_spans.specs.Timed.{is_unfinished}

abbrev pub invariant-loop-service : goal.invariant-loop-service
invariant-loop-service g l =
    Covers service_id (is_left_out service_id is_unfinished l.narrow) l.left (g.R.Rows.tables l.rows).services

abbrev pub decreases-loop-service : goal.decreases-loop-service
decreases-loop-service g l = l.left.high - l.left.after
