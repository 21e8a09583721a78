-- Whether a place is held, from what its tasks show.
use Rattle.std.proofs.Common.{◌≡◌, Bool, List, Option, ap, ◌∙◌}
use Rattle.std.specs.List.{list_any}
use Rattle.std.specs.Prelude.{◌&&◌, ◌||◌}
use Rattle.swarm_objects.specs.Rows.{is_some_and}
use Rattle.swarm_objects.specs.Tasks.Places.{closes, is_held, is_in_place, newest, tasks_of_place}
use Rattle.swarm_objects.specs.Tasks.Words.{is_live}
use Rattle.swarm_objects.specs.declared.services.Service.{Service}
use Rattle.swarm_objects.specs.declared.tasks.Place.{Place}
use Rattle.swarm_objects.specs.declared.tasks.Task.{Task}
use Rattle.swarm_plain.proofs.Passes.{any_both}

pub held : (s : Service) (p : Place) (tasks : List Task) (live : Bool) (last : Option Task) →
    live ≡ list_any (λ x. is_in_place s p x && is_live x) tasks → last ≡ newest (tasks_of_place s p tasks) →
    (live || is_some_and closes last) ≡ is_held s p tasks
held s p tasks live last any is =
    ap (λ b. b || is_some_and closes last) (any ∙ any_both (is_in_place s p) is_live tasks)
    ∙ ap (λ t. list_any is_live (tasks_of_place s p tasks) || is_some_and closes t) is
