-- A service's tasks on the nodes of each class.
use Rattle.std.specs.Option.{option_eq}
use Rattle.std.specs.Prelude.{Bool, List, None, Option, Some, count_by, get_or, if◌then◌else◌, length, ℕ}
use Rattle.std.specs.Prelude.{◌&&◌, ◌+◌, ◌<◌, ◌≡◌, ◌≤◌}
use Rattle.swarm_objects.specs.Rows.{row_at}
use Rattle.swarm_objects.specs.Same.{same_number}
use Rattle.swarm_objects.specs.Tasks.Words.{is_live, is_placed}
use Rattle.swarm_objects.specs.declared.tasks.Task.{Task}
use Rattle.swarm_sched.specs.Inside.Classes.{entry_id}
use Rattle.swarm_sched.specs.declared.classes.ClassedNode.{ClassedNode}
use Rattle.swarm_sched.specs.declared.classes.TheConstants.{CLASSES}

abbrev pub class_or_none : Option ClassedNode → Option ℕ
class_or_none None = None
class_or_none (Some c) = Some c.class

abbrev pub class_of_node : List ClassedNode → Option ℕ → Option ℕ
class_of_node sorted None = None
class_of_node sorted (Some node) = class_or_none (row_at entry_id node sorted)

-- the class in which the task counts: the live ones from ASSIGNED to RUNNING do in their node's
abbrev pub task_class : List ClassedNode → Task → Option ℕ
task_class sorted x = if is_live x && is_placed x then class_of_node sorted x.node else None

abbrev pub is_of_class : List ClassedNode → ℕ → Task → Bool
is_of_class sorted class x = option_eq same_number (task_class sorted x) (Some class)

-- so many of the tasks count in each class
pub record AreLoads (sorted : List ClassedNode) (tasks : List Task) (loads : List ℕ) : Type 0 where
  pub each : (class : ℕ) → class < CLASSES → get_or loads class 0 ≡ count_by (is_of_class sorted class) tasks
  pub all : length loads ≡ CLASSES

-- no more than so many do
pub record AreMost (sorted : List ClassedNode) (tasks : List Task) (most : List ℕ) : Type 0 where
  pub each : (class : ℕ) → class < CLASSES → count_by (is_of_class sorted class) tasks ≤ get_or most class 0
  pub all : length most ≡ CLASSES

-- so far, where these tasks are left
pub record AreCounting (sorted : List ClassedNode) (tasks left : List Task) (loads : List ℕ) : Type 0 where
  pub each : (class : ℕ) → class < CLASSES →
      get_or loads class 0 + count_by (is_of_class sorted class) left ≡ count_by (is_of_class sorted class) tasks
  pub fits : (class : ℕ) → class < CLASSES → get_or loads class 0 + length left ≤ length tasks
  pub all : length loads ≡ CLASSES
