use Rattle.swarm_world.proofs.Arriving.{coming-first, coming-next}
use Rattle.swarm_world.proofs.arrivals.put_new_agents.Goals as goal

pub loop-op-init : goal.loop-op-init
loop-op-init c = coming-first c.args.next c.args.ops.now c.args.agents.now c.requires.below

pub loop-op-preserved : goal.loop-op-preserved
loop-op-preserved c =
    coming-next c.args.next c.loop-op.id c.next_after-id.result c.in-Some.op.now c.loop-op.rest.now c.in-Some.more.now
    c.args.ops.now c.loop-op.agents c.put_new_agent.new.agents c.args.agents.now c.in-Some.ensures.cases.0 c.in-Ok.ensures.ok
    c.next_after-id.ensures c.loop-op.invariant
