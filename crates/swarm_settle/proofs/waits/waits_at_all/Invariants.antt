use Rattle.std.proofs.Common.{map, ◌≡◌}
use Rattle.std.specs.Prelude.{flat_map}
use Rattle.swarm_agent.specs.Agents.{agent_row}
use Rattle.swarm_model.specs.Settle.{wait_cmp}
use Rattle.swarm_objects.specs.Rows.{least_by}
use Rattle.swarm_settle.proofs.waits.waits_at_all.Given as goal
use Rattle.swarm_settle.specs.ByAgent.{waits_at}
use Rattle.swarm_settle.specs.Standing.{world_with}

abbrev pub invariant-loop-id : goal.invariant-loop-id
invariant-loop-id g l =
    let w = world_with (g.R.Rows.tables l.rows) l.sessions l.agents in
    least_by wait_cmp l.least (flat_map (waits_at w) (map agent_row l.id-iterator))
    ≡ least_by wait_cmp l.fn.best (flat_map (waits_at w) l.agents)
