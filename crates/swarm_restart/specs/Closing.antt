-- The changes that close a place.
use Rattle.std.specs.Prelude.{ℕ, List, [], ◌∷◌, Option, None, Some, if◌then◌else◌, ◌==◌}
use Rattle.swarm_objects.specs.Changes.{wanted}
use Rattle.swarm_objects.specs.Loops.Restart.{closed_by}
use Rattle.swarm_objects.specs.declared.rows.Change.{Change}
use Rattle.swarm_objects.specs.declared.rows.Change.TheVariants as change
use Rattle.swarm_objects.specs.declared.tasks.Closed.{Closed}
use Rattle.swarm_objects.specs.declared.tasks.Desired.TheVariants as desired
use Rattle.swarm_objects.specs.declared.tasks.Task.{Task}

-- the task stops, and the other one closes the place; one change where these are the same
abbrev pub closing_changes : ℕ → Closed → Task → Task → List Change
closing_changes version cause x y =
    if y.id == x.id then change.PutTask (closed_by version cause (wanted version desired.Shutdown x)) ∷ []
    else change.PutTask (wanted version desired.Shutdown x) ∷ change.PutTask (closed_by version cause y) ∷ []

abbrev pub closing_found : ℕ → Closed → Task → Option Task → List Change
closing_found version cause x None = change.PutTask (wanted version desired.Shutdown x) ∷ []
closing_found version cause x (Some y) = closing_changes version cause x y
