use Rattle.swarm_agent.specs.Agent.{at_node}
use Rattle.swarm_agent.specs.Times.{seen_agent}
use Rattle.swarm_model.specs.Settle.{executor_wait, wait_cmp}
use Rattle.swarm_settle.proofs.LeastWaits.{least_two}
use Rattle.swarm_settle.proofs.waits.waits_at.Goals as goal
use Rattle.swarm_settle.specs.ByAgent.{session_waits_of}
use Rattle.swarm_settle.specs.Standing.{world_with}

pub returns : goal.returns
returns g c =
    let w = world_with (g.R.Rows.tables c.args.rows.now) c.args.sessions.now c.args.agents.now in
    let a = seen_agent (at_node c.args.id c.args.agent.now) in
    least_two wait_cmp (executor_wait a) (session_waits_of w a) c.args.best c.agent_wait-executed.result
    c.agent_session.result (c.agent_wait-executed.ensures c.args.id) c.agent_session.ensures
