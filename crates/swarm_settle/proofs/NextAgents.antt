-- The first agent in a span, found by passing nodes that are out of it.
use Rattle.std.proofs.Common.{◌≡◌, ◌-◌, ◌<◌, ◌≤◌, ℕ, Some, None, List, false, sym, true}
use Rattle.std.specs.Prelude.{find}
use Rattle.swarm_agent.specs.Agent.{AgentState, at_node}
use Rattle.swarm_agent.specs.Times.{seen_agent}
use Rattle.swarm_objects.specs.Rows.{RisesFrom, agent_node, row_above}
use Rattle.swarm_objects.specs.declared.agents.NodeAgent.{NodeAgent}
use Rattle.swarm_spans.proofs.InSpans.{above-end, in-found, in-none, in-over, less_left, out-begins, out-passed}
use Rattle.swarm_spans.specs.Spans.{AreOut, is_in}
use Rattle.swarm_spans.specs.declared.span.Span.{Span}

abbrev pub seen_on : ℕ → AgentState → NodeAgent
seen_on node a = seen_agent (at_node node a)

pub agents_begin : (agents : List NodeAgent) (span : Span) → AreOut agent_node span span.after agents
agents_begin agents span = out-begins agent_node span agents

pub no_agent : (agents : List NodeAgent) (span : Span) (after end : ℕ) → AreOut agent_node span after agents
    → ((id : ℕ) → after < id → id ≤ end → is_in span id ≡ false) → None ≡ row_above agent_node end agents
    → None ≡ find (λ b. is_in span b.node) agents
no_agent agents span after end out none e = sym (in-none agent_node span after end agents out none (sym e))

pub no_agent_more : (agents : List NodeAgent) (span : Span) (after : ℕ) → AreOut agent_node span after agents
    → span.high ≤ after → None ≡ find (λ b. is_in span b.node) agents
no_agent_more agents span after out le = sym (in-over agent_node span after agents out le)

pub agent_found : (agents : List NodeAgent) (span : Span) (after end node : ℕ) (a : AgentState)
    → RisesFrom agent_node 0 agents → AreOut agent_node span after agents
    → ((id : ℕ) → after < id → id ≤ end → is_in span id ≡ false) → Some (seen_on node a) ≡ row_above agent_node end agents
    → true ≡ is_in span node → Some (seen_on node a) ≡ find (λ b. is_in span b.node) agents
agent_found agents span after end node a rises out none e within =
    sym (in-found agent_node span after end agents (seen_on node a) rises out none (sym e) (sym within))

pub agent_passed : (agents : List NodeAgent) (span : Span) (after end node : ℕ) (a : AgentState)
    → RisesFrom agent_node 0 agents → AreOut agent_node span after agents
    → ((id : ℕ) → after < id → id ≤ end → is_in span id ≡ false) → Some (seen_on node a) ≡ row_above agent_node end agents
    → false ≡ is_in span node → AreOut agent_node span node agents
agent_passed agents span after end node a rises out none e outside =
    out-passed agent_node span after end agents (seen_on node a) rises out none (sym e) (sym outside)

pub fewer_agents : (agents : List NodeAgent) (high after end node : ℕ) (a : AgentState) → after < high → after ≤ end
    → Some (seen_on node a) ≡ row_above agent_node end agents → high - node < high - after
fewer_agents agents high after end node a lt le e =
    less_left high after end node lt le (above-end agent_node end agents (seen_on node a) (sym e))

pub ruleset agents = (agents_begin, no_agent, no_agent_more, agent_found, agent_passed, fewer_agents)
