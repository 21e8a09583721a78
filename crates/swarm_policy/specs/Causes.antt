-- Why a task may not be made anew.
use Rattle.std.specs.Prelude.{None, Option}
use Rattle.swarm_objects.specs.Rows.{on_row, row_at, service_id}
use Rattle.swarm_objects.specs.Tasks.Policy.{no_restart}
use Rattle.swarm_objects.specs.World.{Tables}
use Rattle.swarm_objects.specs.declared.tasks.Closed.{Closed}
use Rattle.swarm_objects.specs.declared.tasks.Task.{Task}

-- the first cause by the present policy of the task's service
abbrev pub cause : Tables → Task → Option Closed
cause t x = on_row None (λ s. no_restart t s x) (row_at service_id x.service t.services)
