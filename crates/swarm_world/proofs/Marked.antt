-- Where every row and every agent may have a duty.
use Rattle.std.proofs.Common.{◌≡◌, ◌<◌, ◌^◌, ◌+◌, ℕ, Bool, List, [], ◌∷◌, arith, subst, sym}
use Rattle.std.specs.Prelude.{map}
use Rattle.swarm_agent.specs.Times.{seen_agent}
use Rattle.swarm_model.proofs.Laws.GivesOutReplay.{whole-replay}
use Rattle.swarm_model.proofs.Laws.Small.{IsSmall-replay}
use Rattle.swarm_model.proofs.Laws.Sound.{rises-between}
use Rattle.swarm_model.proofs.Moves.Rows.{RisesBetween, between-has}
use Rattle.swarm_model.specs.History.{replay}
use Rattle.swarm_objects.specs.Loops.Agents.{agent_duties}
use Rattle.swarm_objects.specs.Rows.{RisesFrom, agent_node}
use Rattle.swarm_objects.specs.Usable.{IsUsable}
use Rattle.swarm_objects.specs.World.{Tables}
use Rattle.swarm_objects.specs.declared.agents.NodeAgent.{NodeAgent}
use Rattle.swarm_spans.specs.Services.Touches.{AreCovered}
use Rattle.swarm_spans.proofs.Grown.{in-full}
use Rattle.swarm_spans.specs.Spans.{Covers, full, has_duty}
use Rattle.swarm_spans.specs.TasksCovered.{AreTasksCovered}
use Rattle.swarm_spans.specs.Timed.{AreTimed}
use Rattle.swarm_settle.specs.Asked.{may_wait}
use Rattle.swarm_world.proofs.Entering.{are_usable}
use Rattle.swarm_world.proofs.KnownSteps.{nothing-known}
use Rattle.swarm_world.proofs.Recorded.{usable_rows}
use Rattle.swarm_world.specs.Inside.Known.{KnowsAll}
use Rattle.swarm_world.specs.Inside.Looks.{is_restless, looked_at, is_unsaid, no_steps, wants_message}
use Rattle.swarm_world.specs.Inside.Marks.{AreMarked, IsMarked}
use Rattle.swarm_world.specs.Inside.Parts.{HasHistory}
use Rattle.swarm_world.specs.Inside.Records.{tables_of}
use Rattle.swarm_world.specs.Inside.Spanned.{CoversAgents}
use Rattle.swarm_world.specs.declared.agent_spans.AgentSpans.{AgentSpans}
use Rattle.swarm_world.specs.declared.marks.Marks.{Marks}
use Rattle.swarm_world.specs.declared.parts.Parts.{Parts}

pub full_covers : {X : Type 0} (key : X → ℕ) (test : X → Bool) (high : ℕ) (rows : List X) → RisesBetween key 1 high rows
    → high < 2 ^ 60 → Covers key test full rows
full_covers key test high rows rises near = record {
  has = λ x h d. let is = between-has key 1 high rows x rises h in in-full (key x) is.0 (omega (arith, is.1, near));
}

seen-between : (high low : ℕ) (agents : List NodeAgent) → RisesBetween agent_node low high agents
    → RisesBetween agent_node low high (map seen_agent agents)
seen-between high low [] rises = tt
seen-between high low (a ∷ agents) rises = (rises.0, rises.1, seen-between high (a.node + 1) agents rises.2)

pub agents-between : (p : Parts) (is : HasHistory p)
    → RisesBetween agent_node 1 (replay is.history).tables.next_id p.agents
agents-between p is =
    subst (RisesBetween agent_node 1 (replay is.history).tables.next_id) (sym is.stands.has.agents)
    (seen-between (replay is.history).tables.next_id 1 (replay is.history).agents (whole-replay is.history is.legal).0.agents)

-- the agents stand by rising node
pub agents_rise : (p : Parts) → HasHistory p → RisesFrom agent_node 0 p.agents
agents_rise p is =
    rises-between agent_node 0 1 (replay is.history).tables.next_id p.agents (omega arith) (agents-between p is)

-- each agent is in spans of every number
pub agents_full : (p : Parts) (spans : AgentSpans) → spans.duties ≡ full → spans.tells ≡ full
    → spans.news ≡ full → spans.waits ≡ full → spans.steps ≡ no_steps → HasHistory p
    → CoversAgents p spans
agents_full p spans duties tells news waits steps is =
    let w = looked_at (tables_of p.records) p.sent in
    let high = (replay is.history).tables.next_id in
    let small = (IsSmall-replay is.history is.legal).next_id in
    record {
      duties =
          subst (λ span. Covers agent_node (has_duty (agent_duties w)) span p.agents) (sym duties)
          (full_covers agent_node (has_duty (agent_duties w)) high p.agents (agents-between p is) small);
      sleeps =
          subst (λ span. Covers agent_node (is_restless spans.wakes w) span p.agents) (sym duties)
          (full_covers agent_node (is_restless spans.wakes w) high p.agents (agents-between p is) small);
      tells =
          subst (λ span. Covers agent_node (wants_message w) span p.agents) (sym tells)
          (full_covers agent_node (wants_message w) high p.agents (agents-between p is) small);
      news =
          subst (λ span. Covers agent_node (is_unsaid w) span p.agents) (sym news)
          (full_covers agent_node (is_unsaid w) high p.agents (agents-between p is) small);
      waits =
          subst (λ span. Covers agent_node may_wait span p.agents) (sym waits)
          (full_covers agent_node may_wait high p.agents (agents-between p is) small);
      steps = λ a there. nothing-known (tables_of p.records).clock spans.steps a steps;
    }

pub all_are_marked : (m : Marks) → ((t : Tables) → IsUsable t → AreTasksCovered t m.tasks)
    → ((t : Tables) → IsUsable t → AreCovered t m.services) → ((t : Tables) → IsUsable t → AreTimed t m.timed)
    → ((t : Tables) → KnowsAll t m.known) → m.agents.duties ≡ full → m.agents.tells ≡ full → m.agents.news ≡ full
    → m.agents.waits ≡ full → m.agents.steps ≡ no_steps → (p : Parts) → HasHistory p → IsMarked m p
all_are_marked m tasks services timed known duties tells news waits steps p is =
    let usable = usable_rows p.records (are_usable p is) in
    record {
      rows = record {
        tasks = tasks (tables_of p.records) usable;
        services = services (tables_of p.records) usable;
        timed = timed (tables_of p.records) usable;
        known = known (tables_of p.records);
      };
      agents = agents_full p m.agents duties tells news waits steps is;
    }

-- the same spans, where nothing is remembered
pub marked_apart : (m n : Marks) (p : Parts) → n.tasks ≡ m.tasks → n.services ≡ m.services → n.timed ≡ m.timed
    → n.agents ≡ m.agents → ((t : Tables) → KnowsAll t n.known) → IsMarked m p → IsMarked n p
marked_apart m n p tasks services timed agents known are =
    let t = tables_of p.records in
    record {
      rows = record {
        tasks = subst (AreTasksCovered t) (sym tasks) are.rows.tasks;
        services = subst (AreCovered t) (sym services) are.rows.services;
        timed = subst (AreTimed t) (sym timed) are.rows.timed;
        known = known t;
      };
      agents = subst (CoversAgents p) (sym agents) are.agents;
    }

-- where the rows alone were looked at
pub still_marked : (m n : Marks) (p : Parts) → IsMarked m p → AreMarked n (tables_of p.records) → n.agents ≡ m.agents
    → IsMarked n p
still_marked m n p are rows same = record { rows = rows; agents = subst (CoversAgents p) (sym same) are.agents }
