-- The rows for which time passes, and the spans that have them.
use Rattle.std.specs.Prelude.{List, Bool, true, ℕ, ◌<◌, ◌≡◌, ◌||◌}
use Rattle.swarm_model.specs.Settle.{is_paused_status, is_remote}
use Rattle.swarm_objects.specs.ChangeLists.{apply_change}
use Rattle.swarm_objects.specs.Nodes.Words.{is_down}
use Rattle.swarm_objects.specs.Rows.{Has, is_some_and, node_id, service_id}
use Rattle.swarm_objects.specs.Services.Runs.{has_open_run}
use Rattle.swarm_objects.specs.Usable.{IsUsable}
use Rattle.swarm_objects.specs.World.{Tables}
use Rattle.swarm_objects.specs.declared.nodes.Node.{Node}
use Rattle.swarm_objects.specs.declared.rows.Change.{Change}
use Rattle.swarm_objects.specs.declared.rows.Change.TheVariants as change
use Rattle.swarm_objects.specs.declared.services.Service.{Service}
use Rattle.swarm_spans.specs.Spans.{Covers, is_in}
use Rattle.swarm_spans.specs.TasksCovered.{HasNewNodes, HasNewServices, with_nodes, with_services}
use Rattle.swarm_spans.specs.declared.span.Span.{Span}
use Rattle.swarm_spans.specs.declared.timed_spans.TimedSpans.{TimedSpans}

-- its update is paused
abbrev pub has_paused_run : Service → Bool
has_paused_run s = is_some_and (λ run. is_paused_status run.status) s.run

-- its update is under way or paused
abbrev pub is_unfinished : Service → Bool
is_unfinished s = has_open_run s || has_paused_run s

abbrev pub is_down_node : Node → Bool
is_down_node n = is_down n.state

-- each of these rows is in its span
pub record AreTimed (t : Tables) (spans : TimedSpans) : Type 0 where
  pub updates : Covers service_id is_unfinished spans.updates t.services
  pub downs : Covers node_id is_down_node spans.downs t.nodes
  pub remotes : Covers node_id is_remote spans.remotes t.nodes

-- a row that is put is in the span, where it passes the test
pub record AddsPut {X : Type 0} (key : X → ℕ) (put : X → Change) (test : X → Bool) (c : Change) (wide : Span)
    : Type 0 where
  pub row : (x : X) → c ≡ put x → 0 < key x → test x ≡ true → is_in wide (key x) ≡ true

abbrev pub AddsNode : (Node → Bool) → Change → Span → Type 0
AddsNode test c wide = AddsPut node_id change.PutNode test c wide

abbrev pub AddsService : Change → Span → Type 0
AddsService c wide = AddsPut service_id change.PutService is_unfinished c wide

-- so for each change
pub record AddsEach (P : Change → Span → Type 0) (cs : List Change) (wide : Span) : Type 0 where
  pub each : (c : Change) → Has cs c → P c wide

-- the ones have what the others do, whatever row of this service is put
abbrev pub TimedPutLaw : ℕ → TimedSpans → TimedSpans → Type 0
TimedPutLaw id spans wide =
    (t : Tables) (s : Service) → s.id ≡ id → IsUsable (apply_change t (change.PutService s)) → AreTimed t spans
    → AreTimed (apply_change t (change.PutService s)) wide

-- where services come from this id on
abbrev pub TimedServicesLaw : ℕ → TimedSpans → TimedSpans → Type 0
TimedServicesLaw first spans wide =
    (t : Tables) (next_id : ℕ) (services : List Service) → IsUsable (with_services next_id services t)
    → HasNewServices first next_id t services → AreTimed t spans → AreTimed (with_services next_id services t) wide

-- where nodes come from this id on
abbrev pub TimedNodesLaw : ℕ → TimedSpans → TimedSpans → Type 0
TimedNodesLaw first spans wide =
    (t : Tables) (next_id : ℕ) (nodes : List Node) → IsUsable (with_nodes next_id nodes t)
    → HasNewNodes first t nodes → AreTimed t spans → AreTimed (with_nodes next_id nodes t) wide
