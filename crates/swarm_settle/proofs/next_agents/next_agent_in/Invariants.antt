use Rattle.std.specs.Prelude.{◌-◌}
use Rattle.swarm_objects.specs.Rows.{agent_node}
use Rattle.swarm_spans.specs.Spans.{AreOut}
use Rattle.swarm_settle.proofs.next_agents.next_agent_in.Given as goal

abbrev pub invariant-loop-after : goal.invariant-loop-after
invariant-loop-after l = AreOut agent_node l.span l.after l.agents

abbrev pub decreases-loop-after : goal.decreases-loop-after
decreases-loop-after l = l.span.high - l.after
