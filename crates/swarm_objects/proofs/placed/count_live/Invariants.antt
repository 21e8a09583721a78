use Rattle.std.proofs.Common.{◌≡◌, ◌+◌, ◌≤◌, length}
use Rattle.std.specs.Prelude.{count_by}
use Rattle.swarm_objects.specs.Nodes.Holdings.{tasks_placed_on}
use Rattle.swarm_objects.specs.Tasks.Words.{is_live}
use Rattle.swarm_objects.proofs.placed.count_live.Given as goal

abbrev pub invariant-loop-task : goal.invariant-loop-task
invariant-loop-task g l =
    let placed = tasks_placed_on (g.R.Rows.tables l.rows) l.node in
    record {
      sum : l.count + count_by is_live l.task-iterator ≡ count_by is_live placed;
      fits : l.count + length l.task-iterator ≤ length placed;
    }
