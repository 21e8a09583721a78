-- How what is kept for the scheduler's first duty is built and read.
use Rattle.std.specs.Option.{option_map, option_or}
use Rattle.std.specs.Prelude.{Err, List, None, Ok, Result, Some, [], drop, filter, get_or, if◌then◌else◌, length}
use Rattle.std.specs.Prelude.{map, take, ℕ, ◌++◌, ◌<◌, ◌∷◌, ◌≡◌, ◌≤◌}
use Rattle.swarm_objects.specs.Loops.Scheduler.{schedule}
use Rattle.swarm_objects.specs.Rows.{IsRising, has_row, on_row, row_at, task_id, with_row}
use Rattle.swarm_objects.specs.Tasks.Words.{is_below_assigned}
use Rattle.swarm_objects.specs.World.{Tables}
use Rattle.swarm_objects.specs.declared.duties.Duty.{Duty}
use Rattle.swarm_objects.specs.declared.tasks.Task.{Task}
use Rattle.swarm_sched.specs.Near.{first_waiting, totals_of, tree_of, tree_service}
use Rattle.swarm_sched.specs.declared.near.Near.{Near}
use Rattle.swarm_spread.specs.Counts.{Counts}

abbrev pub totals_node : ℕ × ℕ × ℕ × ℕ → ℕ
totals_node totals = totals.0

-- where the row with the number stands, or where it would
abbrev pub IsPlace : {X : Type 0} → (X → ℕ) → ℕ → List X → Result ℕ ℕ → Type 0
IsPlace {X} key k rows (Ok at) = (at < length rows) × ((d : X) → row_at key k rows ≡ Some (get_or rows at d))
IsPlace {X} key k rows (Err at) =
    (at ≤ length rows) × (row_at key k rows ≡ None)
    × ((new : X) → key new ≡ k → take at rows ++ new ∷ drop at rows ≡ with_row key new rows)

-- the task's service has a tree, if need be by this task
abbrev pub with_tree : Tables → Task → List (ℕ × Counts) → List (ℕ × Counts)
with_tree t x trees =
    if has_row tree_service x.service trees then trees else with_row tree_service (tree_of t x) trees

-- so far, where these tasks are left
pub record IsNoting (t : Tables) (left : List Task) (near : Near) : Type 0 where
  pub totals : near.totals ≡ map (totals_of t) t.nodes
  pub waiting : near.waiting ++ map task_id (filter is_below_assigned left)
      ≡ map task_id (filter is_below_assigned t.tasks)
  pub rising : IsRising tree_service near.trees
  pub trees : (service : ℕ) →
      option_or (row_at tree_service service near.trees) (option_map (tree_of t) (first_waiting service left))
      ≡ option_map (tree_of t) (first_waiting service t.tasks)

-- what there is to do about the task with this id
abbrev pub schedule_at : Tables → ℕ → List Duty
schedule_at t id = on_row [] (schedule t) (row_at task_id id t.tasks)
