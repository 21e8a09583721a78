use Rattle.std.proofs.Common.{arith}
use Rattle.swarm_agent.proofs.RowPlaces.{more_changed}
use Rattle.swarm_agent.specs.Inside.Named.{named_or_gone}
use Rattle.swarm_agent.proofs.executors.leave_all_out.Goals as goal

pub loop-executor-preserved : goal.loop-executor-preserved
loop-executor-preserved c =
    more_changed (named_or_gone c.args.named.now) c.loop-executor.rows _ c.loop-executor.executor-index _ _
    (omega (arith, c.loop-executor-test.true, c.loop-executor.auto.rows)) c.loop-executor.invariant c.leave_out.ensures
