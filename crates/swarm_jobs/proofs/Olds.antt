-- The tasks of earlier iterations among those of a job.
use Rattle.std.proofs.Common.{◌≡◌}
use Rattle.std.specs.List.{list_any}
use Rattle.std.specs.Prelude.{filter}
use Rattle.swarm_objects.proofs.Tests.{any_filter}
use Rattle.swarm_objects.specs.Loops.Jobs.{has_old, is_old_of}
use Rattle.swarm_objects.specs.Tasks.Words.{is_of}
use Rattle.swarm_objects.specs.World.{Tables}
use Rattle.swarm_objects.specs.declared.services.Service.{Service}

pub old_of_service : (t : Tables) (s : Service)
    → list_any (λ x. is_old_of x s) (filter (is_of s.id) t.tasks) ≡ has_old t s
old_of_service t s = any_filter (is_of s.id) (λ x. is_old_of x s) t.tasks
