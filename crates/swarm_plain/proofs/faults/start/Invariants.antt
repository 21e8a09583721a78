use Rattle.std.proofs.Common.{◌≡◌, ◌++◌, drop, take}
use Rattle.swarm_objects.specs.Agents.NodeAgents.{started_agent}
use Rattle.swarm_objects.specs.Rows.{agent_node, change_row}
use Rattle.swarm_plain.proofs.faults.start.Given as goal

abbrev pub invariant-loop-agent : goal.invariant-loop-agent
invariant-loop-agent l =
    let change = change_row agent_node l.node (started_agent) in
    take l.agent-index l.agents ++ change (drop l.agent-index l.agents) ≡ change l.initial.agents
