-- In every world of a legal history all tasks of a place are to be removed where its newest is.
use Rattle.std.proofs.Common.{List, ap, map, refl, subst, ◌∙◌}
use Rattle.std.specs.Option.{option_map}
use Rattle.swarm_model.specs.History.{IsLegal, replay}
use Rattle.swarm_objects.proofs.Filters.{filter_map}
use Rattle.swarm_objects.proofs.RowLemmas.{Has-map}
use Rattle.swarm_objects.specs.Rows.{Has}
use Rattle.swarm_objects.specs.Tasks.Places.{is_in_place, tasks_of_place}
use Rattle.swarm_objects.specs.declared.calls.Entry.{Entry}
use Rattle.swarm_objects.specs.declared.services.Service.{Service}
use Rattle.swarm_objects.specs.declared.tasks.Place.{Place}
use Rattle.swarm_objects.specs.declared.tasks.Task.{Task}
use Rattle.swarm_settle.proofs.Lawful.{lawful-replay}
use Rattle.swarm_settle.proofs.PlaceLists.{newest-map}
use Rattle.swarm_settle.proofs.Shapes.{bare, blank}
use Rattle.swarm_settle.proofs.Wholes.{IsWhole}

unblanked : (ys : List Task) → IsWhole (map blank ys) → IsWhole ys
unblanked ys is y z h kept last =
    is (blank y) (blank z) (Has-map blank ys y h) kept (newest-map blank ys ∙ ap (option_map blank) last)

pub whole-places : (h : List Entry) → IsLegal h → (s : Service) (p : Place) → Has (replay h).tables.services s →
    IsWhole (tasks_of_place s p (replay h).tables.tasks)
whole-places h legal s p there =
    let t = (replay h).tables in
    unblanked (tasks_of_place s p t.tasks)
    (subst IsWhole (filter_map (is_in_place s p) blank t.tasks (λ x. refl))
    ((lawful-replay h legal).wholes (bare s) p (Has-map bare t.services s there)))
