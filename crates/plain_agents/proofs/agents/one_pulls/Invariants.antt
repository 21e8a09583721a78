use Rattle.std.proofs.Common.{◌≡◌, drop}
use Rattle.std.specs.List.{list_any}
use Rattle.plain_agents.specs.OneAgent.{pulls}
use Rattle.swarm_plain.specs.Plain.{world_of}
use Rattle.plain_agents.proofs.agents.one_pulls.Given as goal

abbrev pub invariant-loop-agent : goal.invariant-loop-agent
invariant-loop-agent l =
    let test = pulls (world_of l.plain) l.node in
    list_any test (drop l.agent-index l.agent-items) ≡ list_any test l.plain.agents
