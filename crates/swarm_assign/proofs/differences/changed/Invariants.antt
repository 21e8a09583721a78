use Rattle.std.proofs.Common.{◌≡◌, ◌++◌, ◌+◌, length}
use Rattle.swarm_assign.specs.Inside.Merging.{change_task, left_of, merged}
use Rattle.swarm_objects.specs.Agents.Messages.{assigned_task}
use Rattle.swarm_objects.specs.Rows.{IsRising}
use Rattle.swarm_assign.proofs.differences.changed.Given as goal

-- the rows that are left give what is still to be put
abbrev pub invariant-loop-task : goal.invariant-loop-task
invariant-loop-task l = record {
  one : IsRising change_task l.changes;
  two : IsRising assigned_task l.told;
  put : l.left ++ merged change_task assigned_task left_of l.changes l.told ≡ merged change_task assigned_task left_of l.fn.changes l.fn.told;
}

abbrev pub decreases-loop-task : goal.decreases-loop-task
decreases-loop-task l = length l.changes + length l.told
