use Rattle.std.specs.Prelude.{◌-◌}
use Rattle.swarm_objects.specs.Rows.{agent_node}
use Rattle.swarm_settle.proofs.waits.waits_at_some.Given as goal
use Rattle.swarm_settle.specs.ByAgent.{waits_at}
use Rattle.swarm_settle.specs.Standing.{world_with}
use Rattle.swarm_settle.specs.Waiting.{IsGoneOver}

abbrev pub invariant-loop-id : goal.invariant-loop-id
invariant-loop-id g l =
    let w = world_with (g.R.Rows.tables l.rows) l.sessions l.agents in
    IsGoneOver agent_node (waits_at w) l.agents l.fn.best l.least l.left

abbrev pub decreases-loop-id : goal.decreases-loop-id
decreases-loop-id g l = l.left.high - l.left.after
