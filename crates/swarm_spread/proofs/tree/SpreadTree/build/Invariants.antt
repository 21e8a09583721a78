use Rattle.std.proofs.Common.{◌≡◌, ◌+◌, ◌≤◌, length}
use Rattle.std.specs.Prelude.{filter, sum_by}
use Rattle.swarm_objects.specs.Rows.{itself}
use Rattle.swarm_objects.specs.Tasks.Words.{is_of}
use Rattle.swarm_spread.specs.Counts.{counts_of, with_tasks}
use Rattle.swarm_spread.proofs.tree.SpreadTree.build.Given as goal

abbrev pub invariant-loop-task : goal.invariant-loop-task
invariant-loop-task g l = let t = g.R.Rows.tables l.rows in
    record {
      left : with_tasks l.tree l.task-iterator ≡ counts_of t l.service l.keys;
      few : sum_by itself l.tree.here + length l.task-iterator ≤ length (filter (is_of l.service) t.tasks);
    }
