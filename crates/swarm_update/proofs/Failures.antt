-- The failures of a run are tasks of its service.
use Rattle.std.proofs.Common.{◌≡◌}
use Rattle.std.specs.Prelude.{◌&&◌, ◌==◌, ◌+◌, count_by, filter, nat_lt}
use Rattle.swarm_objects.specs.Services.Runs.{counts_as_failure, failures, is_failure}
use Rattle.swarm_objects.specs.Tasks.Words.{is_of}
use Rattle.swarm_objects.specs.World.{Tables}
use Rattle.swarm_objects.specs.declared.services.Service.{Service}
use Rattle.swarm_objects.specs.declared.services.UpdateRun.{UpdateRun}
use Rattle.swarm_objects.proofs.PlaceLemmas.{and_left, count_again}

pub failures_of_service : (t : Tables) (s : Service) (run : UpdateRun)
    → count_by (is_failure s run) (filter (is_of s.id) t.tasks) ≡ failures t s run
failures_of_service t s run =
    count_again (is_failure s run) (is_of s.id) t.tasks
    (λ x e. and_left (is_of s.id x) (x.born == run.version)
    (and_left (is_of s.id x && x.born == run.version) (counts_as_failure x.state)
    (and_left (is_of s.id x && x.born == run.version && counts_as_failure x.state)
    (nat_lt x.since (x.created + s.spec.update.monitor)) e)))
