use Rattle.std.proofs.Common.{◌≡◌, ◌++◌, ◌+◌, length}
use Rattle.swarm_assign.specs.Inside.Merging.{difference_of, merged}
use Rattle.swarm_objects.specs.Agents.Messages.{assigned_task}
use Rattle.swarm_objects.specs.Rows.{IsRising}
use Rattle.swarm_assign.proofs.differences.differences.Given as goal

-- the rows that are left give what is still to be put
abbrev pub invariant-loop-task : goal.invariant-loop-task
invariant-loop-task l = record {
  one : IsRising assigned_task l.sent;
  two : IsRising assigned_task l.due;
  put : l.changes ++ merged assigned_task assigned_task difference_of l.sent l.due ≡ merged assigned_task assigned_task difference_of l.fn.sent l.fn.due;
}

abbrev pub decreases-loop-task : goal.decreases-loop-task
decreases-loop-task l = length l.sent + length l.due
