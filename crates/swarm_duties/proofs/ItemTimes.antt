-- The times of the tasks in flight of one place, found by one test of each task.
use Rattle.std.proofs.Common.{◌≡◌, ℕ, ◌+◌, Option, ap, sym}
use Rattle.std.specs.Prelude.{filter, map, ◌&&◌}
use Rattle.std.specs.Ordering.{nat_cmp}
use Rattle.swarm_duties.proofs.PassedWaits.{three_tests}
use Rattle.swarm_objects.specs.Rows.{least_by}
use Rattle.swarm_objects.specs.Services.Runs.{is_flying}
use Rattle.swarm_objects.specs.Tasks.Places.{is_in_place}
use Rattle.swarm_objects.specs.Tasks.Words.{is_running}
use Rattle.swarm_objects.specs.World.{Tables}
use Rattle.swarm_objects.specs.declared.services.Replaced.{Replaced}
use Rattle.swarm_objects.specs.declared.services.Service.{Service}
use Rattle.swarm_objects.specs.declared.tasks.Task.{Task}
use Rattle.swarm_settle.specs.Flights.{item_times}

pub item_made : (t : Tables) (s : Service) (item : Replaced) (least : Option ℕ) →
    least_by nat_cmp least (map (λ (x : Task). x.since + s.spec.update.delay) (filter (λ (x : Task). is_in_place s item.place x && is_flying t s x && is_running x) t.tasks))
    ≡ least_by nat_cmp least (item_times t s item)
item_made t s item least =
    ap (λ tasks. least_by nat_cmp least (map (λ (x : Task). x.since + s.spec.update.delay) tasks))
    (sym (three_tests (is_in_place s item.place) (is_flying t s) is_running t.tasks))
