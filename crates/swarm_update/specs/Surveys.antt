-- What one pass over a service's tasks tells a look at its update.
use Rattle.std.specs.Prelude.{◌≡◌}
use Rattle.swarm_objects.specs.Services.Runs.{failures}
use Rattle.swarm_objects.specs.World.{Tables}
use Rattle.swarm_objects.specs.declared.services.Service.{Service}
use Rattle.swarm_objects.specs.declared.services.UpdateRun.{UpdateRun}
use Rattle.swarm_update.specs.Marks.{ShowsPlaces}
use Rattle.swarm_update.specs.declared.survey.Survey.{Survey}

-- it tells what all tasks say of the service's places, and how many have failed the run
pub record Tells (v : Survey) (t : Tables) (s : Service) (run : UpdateRun) : Type 0 where
  pub places : ShowsPlaces v.places t s t.tasks
  pub failures : v.failures ≡ failures t s run
