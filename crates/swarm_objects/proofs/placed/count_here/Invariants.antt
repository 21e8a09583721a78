use Rattle.std.proofs.Common.{◌≡◌, Bool, ◌+◌, ◌≤◌, length}
use Rattle.std.specs.Prelude.{◌&&◌, count_by}
use Rattle.swarm_objects.specs.Nodes.Holdings.{tasks_placed_on}
use Rattle.swarm_objects.specs.Tasks.Words.{is_live, is_of}
use Rattle.swarm_objects.specs.declared.tasks.Task.{Task}
use Rattle.swarm_objects.proofs.placed.count_here.Given as goal

abbrev pub invariant-loop-task : goal.invariant-loop-task
invariant-loop-task g l =
    let placed = tasks_placed_on (g.R.Rows.tables l.rows) l.node in
    let counts : Task → Bool = λ x. is_of l.service x && is_live x in
    record {
      sum : l.count + count_by counts l.task-iterator ≡ count_by counts placed;
      fits : l.count + length l.task-iterator ≤ length placed;
    }
