use Rattle.std.proofs.Common.{◌≡◌, ◌+◌, ◌≤◌, length}
use Rattle.std.specs.Prelude.{count_by, filter}
use Rattle.swarm_objects.specs.Nodes.BestNode.{branch_load}
use Rattle.swarm_objects.specs.Tasks.Words.{is_of}
use Rattle.swarm_sched.proofs.branches.branch_load.Given as goal
use Rattle.swarm_sched.specs.Inside.Branches.{is_of_branch}

abbrev pub invariant-loop-task : goal.invariant-loop-task
invariant-loop-task g l =
    let t = g.R.Rows.tables l.rows in
    record {
      sum : l.count + count_by (is_of_branch t l.keys l.node) l.task-iterator ≡ branch_load t l.service l.keys l.node;
      fits : l.count + length l.task-iterator ≤ length (filter (is_of l.service) t.tasks);
    }
