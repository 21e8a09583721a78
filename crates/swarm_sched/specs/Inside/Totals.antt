-- What the tasks on one node come to.
use Rattle.std.specs.Prelude.{List, ℕ, count_by, length, sum_by, ◌&&◌, ◌*◌, ◌+◌, ◌<◌, ◌^◌, ◌≡◌, ◌≤◌}
use Rattle.swarm_objects.specs.Kinds.{bit}
use Rattle.swarm_objects.specs.Nodes.BestNode.{load}
use Rattle.swarm_objects.specs.Nodes.Holdings.{reserved_cpu, reserved_mem, task_cpu, task_mem}
use Rattle.swarm_objects.specs.Tasks.Words.{is_live, is_of}
use Rattle.swarm_objects.specs.World.{Tables}
use Rattle.swarm_objects.specs.declared.tasks.Task.{Task}
use Rattle.swarm_sched.specs.declared.totals.Totals.{Totals}

-- those of the node
abbrev pub AreTotals : Tables → ℕ → Totals → Type 0
AreTotals t node s = (s.cpu ≡ reserved_cpu t node) × (s.mem ≡ reserved_mem t node) × (s.load ≡ load t node)

-- with one task more
abbrev pub with_task : Task → Totals → Totals
with_task x s = record {
  cpu = s.cpu + task_cpu x;
  mem = s.mem + task_mem x;
  load = s.load + bit (is_live x);
}

-- one task more fits
abbrev pub HasRoom : Totals → Type 0
HasRoom s = (s.cpu + 2 ^ 64 ≤ 2 ^ 128) × (s.mem + 2 ^ 64 ≤ 2 ^ 128) × (s.load + 1 < 2 ^ 64)

-- with those of the tasks that are left they are those of all, and so are the service's own
pub record AreLeft (service : ℕ) (s : Totals) (here : ℕ) (left all : List Task) : Type 0 where
  pub cpu : s.cpu + sum_by task_cpu left ≡ sum_by task_cpu all
  pub mem : s.mem + sum_by task_mem left ≡ sum_by task_mem all
  pub load : s.load + count_by is_live left ≡ count_by is_live all
  pub own : here + count_by (λ x. is_of service x && is_live x) left ≡ count_by (λ x. is_of service x && is_live x) all
  pub cpu_fits : s.cpu + 2 ^ 64 * length left ≤ 2 ^ 64 * length all
  pub mem_fits : s.mem + 2 ^ 64 * length left ≤ 2 ^ 64 * length all
  pub load_fits : s.load + length left ≤ length all
  pub own_fits : here + length left ≤ length all
