use Rattle.swarm_agent.proofs.Sleeping.{next-wake}
use Rattle.swarm_agent.proofs.executors.least_wake.Goals as goal

pub loop-executor-preserved : goal.loop-executor-preserved
loop-executor-preserved c =
    next-wake c.min-least.result c.loop-executor.least c.wake_time.result c.loop-executor.executor-index _ c.args.rows.now
    c.min-least.ensures c.loop-executor-test.true c.wake_time.ensures c.loop-executor.invariant
