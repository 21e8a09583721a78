use Rattle.std.proofs.Common.{◌≡◌, ◌++◌, drop, take, true}
use Rattle.std.specs.List.{list_all}
use Rattle.plain_agents.specs.OneAgent.{with_executors}
use Rattle.swarm_objects.specs.Agents.Messages.{change_executor}
use Rattle.swarm_objects.specs.Bounds.{is_near_agent}
use Rattle.swarm_objects.specs.Loops.Agents.{stepped}
use Rattle.swarm_objects.specs.Rows.{agent_node, change_row}
use Rattle.plain_agents.proofs.agents.step_at.Given as goal

abbrev pub invariant-loop-agent : goal.invariant-loop-agent
invariant-loop-agent l =
    let change = change_row agent_node l.node (with_executors (change_executor l.task (stepped l.clock))) in record {
      near : list_all is_near_agent (drop l.agent-index l.agents) ≡ true;
      rows : take l.agent-index l.agents ++ change (drop l.agent-index l.agents) ≡ change l.initial.agents;
    }
