use Rattle.std.proofs.Common.{◌≡◌, ◌++◌}
use Rattle.std.specs.Prelude.{filter}
use Rattle.swarm_objects.specs.Tasks.Words.{is_on}
use Rattle.swarm_objects.specs.Openings.{rejections}
use Rattle.swarm_objects.proofs.openings.add_rejections.Given as goal

abbrev pub invariant-loop-task : goal.invariant-loop-task
invariant-loop-task g l =
    let t = g.R.Rows.tables l.rows in
    l.changes ++ rejections l.version t.clock l.cpu_left l.mem_left l.task-iterator
    ≡ l.initial.changes ++ rejections l.version t.clock l.cpu l.mem (filter (is_on l.node) t.tasks)
