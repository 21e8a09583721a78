use Rattle.std.specs.Prelude.{◌-◌}
use Rattle.swarm_objects.specs.Rows.{agent_node}
use Rattle.swarm_settle.specs.Asked.{may_wait}
use Rattle.swarm_spans.specs.Spans.{Covers, is_left_out}
use Rattle.swarm_world.proofs.settling.still_waiting.Given as goal

abbrev pub invariant-loop-node : goal.invariant-loop-node
invariant-loop-node l = Covers agent_node (is_left_out agent_node may_wait l.still) l.left l.agents

abbrev pub decreases-loop-node : goal.decreases-loop-node
decreases-loop-node l = l.left.high - l.left.after
