use Rattle.std.proofs.Common.{◌≡◌, ◌+◌, ◌≤◌, length}
use Rattle.std.specs.Prelude.{count_by}
use Rattle.swarm_top.specs.Summary.{is_live_in}
use Rattle.swarm_top.proofs.summaries.live_in.Given as goal

abbrev pub invariant-loop-task : goal.invariant-loop-task
invariant-loop-task g l =
    let t = g.R.Rows.tables l.rows in
    record {
      sum : l.count + count_by (is_live_in l.state) l.task-iterator ≡ count_by (is_live_in l.state) t.tasks;
      fits : l.count + length l.task-iterator ≤ length t.tasks;
    }
