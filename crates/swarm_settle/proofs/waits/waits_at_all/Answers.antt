use Rattle.std.specs.Prelude.{flat_map}
use Rattle.swarm_model.specs.Settle.{wait_cmp}
use Rattle.swarm_objects.specs.Rows.{least_by}
use Rattle.swarm_settle.proofs.Phases.{agent_step}
use Rattle.swarm_settle.proofs.waits.waits_at_all.Goals as goal
use Rattle.swarm_settle.specs.ByAgent.{waits_at}
use Rattle.swarm_settle.specs.Standing.{world_with}

pub loop-id-preserved : goal.loop-id-preserved
loop-id-preserved g c =
    let w = world_with (g.R.Rows.tables c.args.rows.now) c.args.sessions.now c.args.agents.now in
    agent_step (waits_at w) c.loop-id.id-iterator c.next.new.self c.in-Some.id.now c.in-Some.agent.now
    c.loop-id.least c.waits_at-least.result (least_by wait_cmp c.args.best (flat_map (waits_at w) w.agents))
    c.in-Some.ensures.steps c.waits_at-least.ensures c.loop-id.invariant
