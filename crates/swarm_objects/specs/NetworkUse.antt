-- Who uses a network.
use Rattle.std.specs.Prelude.{ℕ, Bool, ◌&&◌, ◌||◌}
use Rattle.swarm_objects.specs.Tasks.Words.{is_not_over}
use Rattle.swarm_objects.specs.declared.tasks.Task.{Task}
use Rattle.swarm_objects.specs.declared.services.Service.{Service}
use Rattle.swarm_objects.specs.declared.services.ServiceSpec.{ServiceSpec}
use Rattle.std.specs.List.{list_any}
use Rattle.swarm_objects.specs.Rows.{is_some_and}
use Rattle.swarm_objects.specs.Same.{same_number}

abbrev pub names_network : ℕ → ServiceSpec → Bool
names_network network spec = list_any (same_number network) spec.template.networks

abbrev pub service_uses : ℕ → Service → Bool
service_uses network s = names_network network s.spec || is_some_and (names_network network) s.previous

abbrev pub task_uses : ℕ → Task → Bool
task_uses network x = is_not_over x && list_any (same_number network) x.template.networks
