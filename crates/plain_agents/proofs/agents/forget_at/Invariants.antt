use Rattle.std.proofs.Common.{◌≡◌, ◌++◌, drop, take}
use Rattle.plain_agents.specs.OneAgent.{with_executors}
use Rattle.swarm_objects.specs.Rows.{agent_node, change_row, drop_row, executor_task}
use Rattle.plain_agents.proofs.agents.forget_at.Given as goal

abbrev pub invariant-loop-agent : goal.invariant-loop-agent
invariant-loop-agent l =
    let change = change_row agent_node l.node (with_executors (drop_row executor_task l.task)) in
    take l.agent-index l.agents ++ change (drop l.agent-index l.agents) ≡ change l.initial.agents
