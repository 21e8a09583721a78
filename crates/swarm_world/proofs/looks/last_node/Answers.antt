use Rattle.std.proofs.Common.{List, ap, sym, ℕ, ◌∙◌}
use Rattle.std.specs.Prelude.{map}
use Rattle.swarm_agent.specs.Agent.{AgentState}
use Rattle.swarm_agent.specs.Agents.{agent_row}
use Rattle.swarm_world.proofs.Ends.{last_is}
use Rattle.swarm_world.proofs.looks.last_node.Goals as goal

pub returns-in-Some : goal.returns-in-Some
returns-in-Some c =
    last_is c.args.agents.now c.next_back.new.self (c.in-Some.node.now, c.in-Some.field-0-1.now) c.requires
    (ap (λ (rows : List (ℕ × AgentState)). map agent_row rows) (sym c.in-Some.ensures.steps) ∙ c.iter.ensures)
