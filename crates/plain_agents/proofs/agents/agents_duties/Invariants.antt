use Rattle.std.proofs.Common.{◌≡◌, take}
use Rattle.std.specs.Prelude.{flat_map}
use Rattle.swarm_objects.specs.Loops.Agents.{agent_duties}
use Rattle.swarm_plain.specs.Plain.{world_of}
use Rattle.plain_agents.proofs.agents.agents_duties.Given as goal

abbrev pub invariant-loop-agent : goal.invariant-loop-agent
invariant-loop-agent l =
    l.duties ≡ flat_map (agent_duties (world_of l.plain)) (take l.agent-index l.agent-items)
