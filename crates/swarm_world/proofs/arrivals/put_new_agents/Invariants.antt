use Rattle.std.proofs.Common.{length}
use Rattle.swarm_world.proofs.Arriving.{AreComing}
use Rattle.swarm_world.proofs.arrivals.put_new_agents.Given as goal

-- the operations that are left give the agents that are still to come
abbrev pub invariant-loop-op : goal.invariant-loop-op
invariant-loop-op l = AreComing l.next l.id l.rest l.ops l.agents l.initial.agents

abbrev pub decreases-loop-op : goal.decreases-loop-op
decreases-loop-op l = length l.rest
