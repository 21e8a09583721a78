use Rattle.std.specs.Prelude.{◌-◌}
use Rattle.swarm_model.specs.Settle.{held_by}
use Rattle.swarm_objects.specs.Rows.{service_id}
use Rattle.swarm_settle.proofs.held_updates.held.Given as goal
use Rattle.swarm_settle.specs.Waiting.{gives}
use Rattle.swarm_spans.specs.Spans.{Covers}

abbrev pub invariant-loop-service : goal.invariant-loop-service
invariant-loop-service g l =
    let t = g.R.Rows.tables l.rows in Covers service_id (gives (held_by t)) l.left t.services

abbrev pub decreases-loop-service : goal.decreases-loop-service
decreases-loop-service g l = l.left.high - l.left.after
