-- What tasks hold of their node: resources and host ports.
use Rattle.std.specs.Prelude.{Bool, ℕ, ◌&&◌, List, filter, sum_by}
use Rattle.std.specs.List.{list_any}
use Rattle.swarm_objects.specs.Rules.Services.{is_host_clash}
use Rattle.swarm_objects.specs.Tasks.Words.{is_on, is_placed}
use Rattle.swarm_objects.specs.World.{Tables}
use Rattle.swarm_objects.specs.declared.tasks.Task.{Task}
use Rattle.swarm_objects.specs.declared.templates.Port.{Port}

-- Resources.

-- a task from ASSIGNED to RUNNING on the node
abbrev pub is_placed_on : ℕ → Task → Bool
is_placed_on node x = is_placed x && is_on node x

abbrev pub tasks_placed_on : Tables → ℕ → List Task
tasks_placed_on t node = filter (is_placed_on node) t.tasks

abbrev pub task_cpu : Task → ℕ
task_cpu x = x.template.cpu

abbrev pub task_mem : Task → ℕ
task_mem x = x.template.mem

abbrev pub reserved_cpu : Tables → ℕ → ℕ
reserved_cpu t node = sum_by task_cpu (tasks_placed_on t node)

abbrev pub reserved_mem : Tables → ℕ → ℕ
reserved_mem t node = sum_by task_mem (tasks_placed_on t node)

-- Host ports.

-- a host port of one of these tasks has its protocol and number; one without a number is none
abbrev pub is_host_port_used : List Task → Port → Bool
is_host_port_used tasks p = list_any (λ x. list_any (is_host_clash p) x.template.host_ports) tasks
