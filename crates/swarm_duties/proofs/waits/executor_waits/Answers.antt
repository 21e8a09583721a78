use Rattle.std.proofs.Common.{arith}
use Rattle.swarm_settle.proofs.LeastWaits.{least_next}
use Rattle.swarm_model.specs.Settle.{executor_wait, wait_cmp}
use Rattle.swarm_objects.specs.Rows.{least_by}
use Rattle.std.specs.Prelude.{flat_map}
use Rattle.swarm_duties.proofs.waits.executor_waits.Goals as goal

pub loop-agent-preserved : goal.loop-agent-preserved
loop-agent-preserved c =
    least_next wait_cmp executor_wait c.as_slice-agent-items.result.now c.loop-agent.agent-index c.agent-item.result
    c.loop-agent.least c.executor_wait-least.result
    (least_by wait_cmp c.args.best (flat_map executor_wait c.args.plain.now.agents)) (omega arith) c.agent-item.is
    c.executor_wait-least.ensures c.loop-agent.invariant
