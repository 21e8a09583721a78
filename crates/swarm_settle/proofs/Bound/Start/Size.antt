-- At the start the measure is at most 142 times the size.
use Rattle.std.proofs.Common.{List, None, Option, Some, [], ap, arith, length, true, ℕ, ◌+◌, ◌*◌, ◌∷◌, ◌≡◌, ◌≤◌}
use Rattle.std.proofs.lemmas.Bool.Decides.{nat_tests}
use Rattle.std.proofs.lemmas.List.{length-map}
use Rattle.std.proofs.lemmas.List.Sums.{count_by-le-length, length-filter, sum_by-cons}
use Rattle.std.specs.Option.{option_eq}
use Rattle.std.specs.Prelude.{count_by, filter, is_none, sum_by}
use Rattle.swarm_settle.proofs.Bound.Falls.Creates.{task-most}
use Rattle.swarm_settle.proofs.Bound.Messages.Sizes.{changes-most}
use Rattle.swarm_settle.proofs.Bound.Messages.World.{Known, known-replay}
use Rattle.swarm_settle.proofs.Bound.Most.{executor-most, node-most, service-most}
use Rattle.swarm_settle.proofs.Bound.Positions.{bit-most}
use Rattle.swarm_settle.proofs.Bound.Sending.Worlds.{rises-from}
use Rattle.swarm_settle.proofs.Bound.Start.Coming.{coming-most}
use Rattle.swarm_settle.proofs.Bound.Start.Shares.{shares-most, sum-scaled}
use Rattle.swarm_settle.proofs.Bound.Sums.{sum-join, sum-le}
use Rattle.swarm_settle.specs.Bound.Left.{agent_left, brings, changes_due, executor_left, node_left, service_left, task_left}
use Rattle.swarm_settle.specs.Bound.Measure.{measure}
use Rattle.swarm_model.specs.History.{IsLegal, replay}
use Rattle.swarm_model.specs.Laws.Size.{size, size_of_agent}
use Rattle.swarm_objects.proofs.Tests.{second_so}
use Rattle.swarm_objects.specs.Agents.Messages.{is_assigned_on, sent_of}
use Rattle.swarm_objects.specs.Rows.{agent_node, node_id, on_row, service_id}
use Rattle.swarm_objects.specs.Same.{same_number}
use Rattle.swarm_objects.specs.World.{World}
use Rattle.swarm_objects.specs.declared.agents.NodeAgent.{NodeAgent}
use Rattle.swarm_objects.specs.declared.calls.Entry.{Entry}
use Rattle.swarm_objects.specs.declared.messages.Message.{Message}
use Rattle.swarm_objects.specs.declared.tasks.Task.{Task}
use Rattle.swarm_settle.specs.Sent.{is_inside}

-- Agents.

-- each modelled node has one
agents-few : (w : World) → Known w → length w.agents ≤ length w.tables.nodes
agents-few w known =
    omega (
      arith,
      length-map w.agents agent_node,
      ap (λ (ks : List ℕ). length ks) known.owners,
      length-map (filter is_inside w.tables.nodes) node_id,
      length-filter is_inside w.tables.nodes,
      count_by-le-length is_inside w.tables.nodes,
    )

inbox-most : (w : World) (a : NodeAgent) (inbox : Option Message) →
    on_row 0 (λ (m : Message). 1 + 14 * count_by (brings w a) m.changes) inbox
    ≤ 1 + 14 * on_row 0 (λ (m : Message). length m.changes) inbox
inbox-most w a None = omega arith
inbox-most w a (Some m) = omega (arith, count_by-le-length (brings w a) m.changes)

agent-most : (w : World) (a : NodeAgent) → agent_left w a ≤ 14 * size_of_agent a + 3 + 2 * changes_due w a.node
agent-most w a =
    omega (
      arith,
      sum-scaled 14 executor_left a.executors (λ e h. executor-most e),
      inbox-most w a a.inbox,
      bit-most (is_none (sent_of w a.node)),
    )

agents-most : (w : World) (agents : List NodeAgent) →
    sum_by (agent_left w) agents
    ≤ 14 * sum_by size_of_agent agents + 3 * length agents + 2 * sum_by (λ a. changes_due w a.node) agents
agents-most w [] = omega arith
agents-most w (a ∷ agents) =
    omega (
      arith,
      sum_by-cons (agent_left w) a agents,
      sum_by-cons size_of_agent a agents,
      sum_by-cons (λ b. changes_due w b.node) a agents,
      agent-most w a,
      agents-most w agents,
    )

abbrev its-home : Task → ℕ
its-home x = on_row 0 (λ (n : ℕ). n) x.node

at-home : (a : NodeAgent) (x : Task) → is_assigned_on a.node x ≡ true → a.node ≡ its-home x
at-home a x e = go x.node (second_so _ _ e)
  where
    go : (o : Option ℕ) → option_eq same_number o (Some a.node) ≡ true → a.node ≡ on_row 0 (λ (n : ℕ). n) o
    go None e = absurd cc
    go (Some n) e = grind (arith, nat_tests, e)

-- each task is on one node, and each executor and each change in an inbox is an agent's own
dues-most : (w : World) → Known w →
    sum_by (λ a. changes_due w a.node) w.agents ≤ length w.tables.tasks + sum_by size_of_agent w.agents
dues-most w known =
    let each = sum-le (λ a. changes_due w a.node)
    (λ a. count_by (is_assigned_on a.node) w.tables.tasks + size_of_agent a) w.agents
    (λ a h. changes-most w a known h) in
    let both = sum-join (λ a. count_by (is_assigned_on a.node) w.tables.tasks) size_of_agent w.agents in
    let shares = shares-most agent_node its-home (λ a. is_assigned_on a.node) 0 w.agents w.tables.tasks
    (rises-from agent_node 1 w.tables.next_id 0 w.agents (omega arith) known.orderly.agents) at-home in
    omega (arith, each, both, shares)

-- All rows.

pub measure-known : (m : ℕ) (w : World) → Known w → measure m w ≤ 142 * size w
measure-known m w known =
    let tasks = sum-scaled 46 (task_left w) w.tables.tasks (λ x h. task-most w x) in
    let nodes = sum-scaled 4 (node_left w.tables) w.tables.nodes (λ n h. node-most w.tables n) in
    let services = sum-scaled 68 service_left w.tables.services (λ s h. service-most s (known.proper.services s h)) in
    let come = coming-most m 0 w.tables
    (rises-from service_id 1 w.tables.next_id 0 w.tables.services (omega arith) known.orderly.services) in
    let agents = agents-most w w.agents in
    let few = agents-few w known in
    let dues = dues-most w known in
    omega (arith, tasks, nodes, services, come, agents, few, dues)

pub measure-most : (m : ℕ) (h : List Entry) → IsLegal h → measure m (replay h) ≤ 142 * size (replay h)
measure-most m h legal = measure-known m (replay h) (known-replay h legal)
