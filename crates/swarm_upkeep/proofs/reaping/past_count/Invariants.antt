use Rattle.std.proofs.Common.{◌≡◌, ◌+◌, ◌≤◌, length}
use Rattle.std.specs.Prelude.{count_by}
use Rattle.swarm_objects.specs.Loops.Reaper.{is_past}
use Rattle.swarm_objects.specs.Tasks.Places.{tasks_of_place}
use Rattle.swarm_upkeep.proofs.reaping.past_count.Given as goal

abbrev pub invariant-loop-task : goal.invariant-loop-task
invariant-loop-task g l =
    let all = tasks_of_place l.service l.fn.place (g.R.Rows.tables l.rows).tasks in
    record {
      sum : l.count + count_by is_past l.task-iterator ≡ count_by is_past all;
      fits : l.count + length l.task-iterator ≤ length all;
    }
