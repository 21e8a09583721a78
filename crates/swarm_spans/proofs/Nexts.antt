-- The first row in a span, found by passing rows that are out of it.
use Rattle.std.proofs.Common.{◌≡◌, ◌-◌, ◌<◌, ◌≤◌, ℕ, Some, None, false, sym, true}
use Rattle.std.specs.Prelude.{find}
use Rattle.swarm_objects.specs.Rows.{node_id, row_above, service_id, task_id}
use Rattle.swarm_objects.specs.Usable.{IsUsable}
use Rattle.swarm_objects.specs.World.{Tables}
use Rattle.swarm_objects.specs.declared.nodes.Node.{Node}
use Rattle.swarm_objects.specs.declared.services.Service.{Service}
use Rattle.swarm_objects.specs.declared.tasks.Task.{Task}
use Rattle.swarm_spans.proofs.InSpans.{above-end, in-found, in-none, in-over, less_left, out-begins, out-passed}
use Rattle.swarm_spans.specs.Spans.{AreOut, is_in}
use Rattle.swarm_spans.specs.declared.span.Span.{Span}

pub tasks_begin : (t : Tables) (span : Span) → AreOut task_id span span.after t.tasks
tasks_begin t span = out-begins task_id span t.tasks

pub no_task : (t : Tables) (span : Span) (after end : ℕ) → AreOut task_id span after t.tasks
    → ((id : ℕ) → after < id → id ≤ end → is_in span id ≡ false) → None ≡ row_above task_id end t.tasks
    → None ≡ find (λ x. is_in span x.id) t.tasks
no_task t span after end out none e = sym (in-none task_id span after end t.tasks out none (sym e))

pub no_task_more : (t : Tables) (span : Span) (after : ℕ) → AreOut task_id span after t.tasks → span.high ≤ after
    → None ≡ find (λ x. is_in span x.id) t.tasks
no_task_more t span after out le = sym (in-over task_id span after t.tasks out le)

pub task_found : (t : Tables) (span : Span) (after end : ℕ) (x : Task) → IsUsable t → AreOut task_id span after t.tasks
    → ((id : ℕ) → after < id → id ≤ end → is_in span id ≡ false) → Some x ≡ row_above task_id end t.tasks
    → true ≡ is_in span x.id → Some x ≡ find (λ y. is_in span y.id) t.tasks
task_found t span after end x usable out none e within =
    sym (in-found task_id span after end t.tasks x usable.sound.ordered.tasks out none (sym e) (sym within))

pub task_passed : (t : Tables) (span : Span) (after end : ℕ) (x : Task) → IsUsable t → AreOut task_id span after t.tasks
    → ((id : ℕ) → after < id → id ≤ end → is_in span id ≡ false) → Some x ≡ row_above task_id end t.tasks
    → false ≡ is_in span x.id → AreOut task_id span x.id t.tasks
task_passed t span after end x usable out none e outside =
    out-passed task_id span after end t.tasks x usable.sound.ordered.tasks out none (sym e) (sym outside)

pub fewer_tasks : (t : Tables) (high after end : ℕ) (x : Task) → after < high → after ≤ end
    → Some x ≡ row_above task_id end t.tasks → high - x.id < high - after
fewer_tasks t high after end x lt le e = less_left high after end x.id lt le (above-end task_id end t.tasks x (sym e))

pub ruleset tasks = (tasks_begin, no_task, no_task_more, task_found, task_passed, fewer_tasks)

pub services_begin : (t : Tables) (span : Span) → AreOut service_id span span.after t.services
services_begin t span = out-begins service_id span t.services

pub no_service : (t : Tables) (span : Span) (after end : ℕ) → AreOut service_id span after t.services
    → ((id : ℕ) → after < id → id ≤ end → is_in span id ≡ false) → None ≡ row_above service_id end t.services
    → None ≡ find (λ x. is_in span x.id) t.services
no_service t span after end out none e = sym (in-none service_id span after end t.services out none (sym e))

pub no_service_more : (t : Tables) (span : Span) (after : ℕ) → AreOut service_id span after t.services → span.high ≤ after
    → None ≡ find (λ x. is_in span x.id) t.services
no_service_more t span after out le = sym (in-over service_id span after t.services out le)

pub service_found : (t : Tables) (span : Span) (after end : ℕ) (x : Service) → IsUsable t → AreOut service_id span after t.services
    → ((id : ℕ) → after < id → id ≤ end → is_in span id ≡ false) → Some x ≡ row_above service_id end t.services
    → true ≡ is_in span x.id → Some x ≡ find (λ y. is_in span y.id) t.services
service_found t span after end x usable out none e within =
    sym (in-found service_id span after end t.services x usable.sound.ordered.services out none (sym e) (sym within))

pub service_passed : (t : Tables) (span : Span) (after end : ℕ) (x : Service) → IsUsable t → AreOut service_id span after t.services
    → ((id : ℕ) → after < id → id ≤ end → is_in span id ≡ false) → Some x ≡ row_above service_id end t.services
    → false ≡ is_in span x.id → AreOut service_id span x.id t.services
service_passed t span after end x usable out none e outside =
    out-passed service_id span after end t.services x usable.sound.ordered.services out none (sym e) (sym outside)

pub fewer_services : (t : Tables) (high after end : ℕ) (x : Service) → after < high → after ≤ end
    → Some x ≡ row_above service_id end t.services → high - x.id < high - after
fewer_services t high after end x lt le e = less_left high after end x.id lt le (above-end service_id end t.services x (sym e))

pub ruleset services = (services_begin, no_service, no_service_more, service_found, service_passed, fewer_services)

pub nodes_begin : (t : Tables) (span : Span) → AreOut node_id span span.after t.nodes
nodes_begin t span = out-begins node_id span t.nodes

pub no_node : (t : Tables) (span : Span) (after end : ℕ) → AreOut node_id span after t.nodes
    → ((id : ℕ) → after < id → id ≤ end → is_in span id ≡ false) → None ≡ row_above node_id end t.nodes
    → None ≡ find (λ x. is_in span x.id) t.nodes
no_node t span after end out none e = sym (in-none node_id span after end t.nodes out none (sym e))

pub no_node_more : (t : Tables) (span : Span) (after : ℕ) → AreOut node_id span after t.nodes → span.high ≤ after
    → None ≡ find (λ x. is_in span x.id) t.nodes
no_node_more t span after out le = sym (in-over node_id span after t.nodes out le)

pub node_found : (t : Tables) (span : Span) (after end : ℕ) (x : Node) → IsUsable t → AreOut node_id span after t.nodes
    → ((id : ℕ) → after < id → id ≤ end → is_in span id ≡ false) → Some x ≡ row_above node_id end t.nodes
    → true ≡ is_in span x.id → Some x ≡ find (λ y. is_in span y.id) t.nodes
node_found t span after end x usable out none e within =
    sym (in-found node_id span after end t.nodes x usable.sound.ordered.nodes out none (sym e) (sym within))

pub node_passed : (t : Tables) (span : Span) (after end : ℕ) (x : Node) → IsUsable t → AreOut node_id span after t.nodes
    → ((id : ℕ) → after < id → id ≤ end → is_in span id ≡ false) → Some x ≡ row_above node_id end t.nodes
    → false ≡ is_in span x.id → AreOut node_id span x.id t.nodes
node_passed t span after end x usable out none e outside =
    out-passed node_id span after end t.nodes x usable.sound.ordered.nodes out none (sym e) (sym outside)

pub fewer_nodes : (t : Tables) (high after end : ℕ) (x : Node) → after < high → after ≤ end
    → Some x ≡ row_above node_id end t.nodes → high - x.id < high - after
fewer_nodes t high after end x lt le e = less_left high after end x.id lt le (above-end node_id end t.nodes x (sym e))

pub ruleset nodes = (nodes_begin, no_node, no_node_more, node_found, node_passed, fewer_nodes)
