-- The line of an entry has no float.
use Rattle.std.proofs.Common.{◌≡◌, ℕ, List, [], ◌∷◌, false, refl, map, Option, Some, None}
use Rattle.serde_json.specs.Data.{Data}
use Rattle.serde_json.specs.View.{items_of}
use Rattle.serde_json.specs.Written.{has_float, items_have_float}
use Rattle.events_text.specs.Changes.{change_data, network_change, node_change, row_change, service_change, shown_change, task_change, telling, told}
use Rattle.events_text.specs.Lines.{entry_between}
use Rattle.swarm_model.specs.Changed.{changes_between}
use Rattle.swarm_objects.specs.Rows.{row_at, network_id, node_id, service_id, task_id}
use Rattle.swarm_objects.specs.Shown.{task_shown}
use Rattle.swarm_objects.specs.World.{Tables, World}
use Rattle.swarm_objects.specs.declared.calls.Entry.{Entry}
use Rattle.swarm_objects.specs.declared.ids.Kind.{Kind}
use Rattle.swarm_objects.specs.declared.ids.Kind.TheVariants as kind
use Rattle.swarm_objects.specs.declared.replies.Reply.{Reply}
use Rattle.swarm_objects.specs.declared.tasks.Task.{Task}
use Rattle.swarm_objects.specs.declared.views.TaskShown.{TaskShown}
use Rattle.swarm_objects.specs.declared.watches.Event.{Event}
use Rattle.swarm_objects.specs.declared.watches.Verb.{Verb}
use Rattle.swarm_print.proofs.Floats.{no_float-optional}

no_float-told : {X : Type 0} (tells : X → Data) (row : Option X) → ((x : X) → has_float (tells x) ≡ false) →
    has_float (told tells row) ≡ false
no_float-told tells None each = refl
no_float-told tells (Some x) each = each x

no_float-shown : (v : Verb) (x : Task) (shown : TaskShown) → has_float (shown_change v x shown) ≡ false
no_float-shown v x shown = rw (no_float-optional x.node) refl

no_float-row : (t : Tables) (v : Verb) (k : Kind) (id : ℕ) → has_float (row_change t v k id) ≡ false
no_float-row t v kind.Node id = no_float-told (node_change v) (row_at node_id id t.nodes) (λ n. refl)
no_float-row t v kind.Service id = no_float-told (service_change v) (row_at service_id id t.services) (λ s. refl)
no_float-row t v kind.Task id =
    no_float-told (task_change t v) (row_at task_id id t.tasks) (λ x. no_float-shown v x (task_shown t x))
no_float-row t v kind.Network id = no_float-told (network_change v) (row_at network_id id t.networks) (λ n. refl)
no_float-row t v kind.Watcher id = refl

no_float-changes : (old new : Tables) (es : List Event) → items_have_float (items_of (map (change_data old new) es)) ≡ false
no_float-changes old new [] = refl
no_float-changes old new (e ∷ es) =
    rw (no_float-row (telling e.verb old new) e.verb e.kind e.id, no_float-changes old new es) refl

pub no_float-entry : (old new : World) (e : Entry) (reply : Reply) → has_float (entry_between old e reply new) ≡ false
no_float-entry old new e reply =
    rw (no_float-changes old.tables new.tables (changes_between new.entries old.tables new.tables)) refl
