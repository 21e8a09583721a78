-- The changes that replace a place.
use Rattle.std.specs.Prelude.{ℕ, Bool, true, false, List, [], ◌∷◌, ◌++◌}
use Rattle.swarm_objects.specs.Changes.{wanted}
use Rattle.swarm_objects.specs.Loops.Update.{item_of, replaced_in, with_item}
use Rattle.swarm_objects.specs.Tasks.New.{goal_of, new_task}
use Rattle.swarm_objects.specs.Tasks.Places.{place_at, place_tasks}
use Rattle.swarm_objects.specs.Tasks.Words.{is_live}
use Rattle.swarm_objects.specs.World.{Tables}
use Rattle.swarm_objects.specs.declared.rows.Change.{Change}
use Rattle.swarm_objects.specs.declared.rows.Change.TheVariants as change
use Rattle.swarm_objects.specs.declared.services.Mode.{Mode}
use Rattle.swarm_objects.specs.declared.services.Replaced.{Replaced}
use Rattle.swarm_objects.specs.declared.services.Service.{Service}
use Rattle.swarm_objects.specs.declared.services.UpdateOrder.{UpdateOrder}
use Rattle.swarm_objects.specs.declared.services.UpdateOrder.TheVariants as order
use Rattle.swarm_objects.specs.declared.tasks.Desired.{Desired}
use Rattle.swarm_objects.specs.declared.tasks.Desired.TheVariants as desired
use Rattle.swarm_objects.specs.ChangeLists.{put_each}

-- the item, unless it was put already
abbrev pub item_unless : Bool → Replaced → List Replaced → List Replaced
item_unless true item items = items
item_unless false item items = with_item item items

-- what is wanted of the new task at first
abbrev pub desired_by_order : Mode → UpdateOrder → Desired
desired_by_order m order.StopFirst = desired.Ready
desired_by_order m order.StartFirst = goal_of m

-- what comes before it: where the old ones stop first, that they do
abbrev pub stops_by_order : ℕ → Tables → Service → ℕ → UpdateOrder → List Change
stops_by_order version t s k order.StopFirst = put_each is_live (wanted version desired.Shutdown) (place_tasks t s k)
stops_by_order version t s k order.StartFirst = []

abbrev pub new_by_order : ℕ → Tables → Service → ℕ → Change
new_by_order version t s k =
    change.PutTask (new_task version t s (place_at s.spec.mode k) (desired_by_order s.spec.mode s.spec.update.order))

-- what stops first, the new task, and the service with the item
abbrev pub replacing : ℕ → Tables → Service → ℕ → List Change
replacing version t s k =
    (stops_by_order version t s k s.spec.update.order ++ new_by_order version t s k ∷ [])
    ++ change.PutService (replaced_in version (item_of t (place_at s.spec.mode k)) s)
    ∷ []
