use Rattle.std.specs.Prelude.{◌-◌}
use Rattle.swarm_objects.specs.Rows.{node_id}
use Rattle.swarm_settle.proofs.waits.remote_waits.Given as goal
use Rattle.swarm_settle.specs.ByNode.{remote_waits_on}
use Rattle.swarm_settle.specs.Standing.{with_sessions}
use Rattle.swarm_settle.specs.Waiting.{IsGoneOver}

abbrev pub invariant-loop-node : goal.invariant-loop-node
invariant-loop-node g l =
    let t = with_sessions (g.R.Rows.tables l.rows) l.sessions in
    IsGoneOver node_id (remote_waits_on t) t.nodes l.fn.best l.least l.left

abbrev pub decreases-loop-node : goal.decreases-loop-node
decreases-loop-node g l = l.left.high - l.left.after
