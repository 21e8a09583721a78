use Rattle.std.proofs.Common.{◌≡◌, ◌++◌}
use Rattle.std.specs.Prelude.{filter, map}
use Rattle.swarm_assign.specs.Inside.Merging.{is_from_assigned}
use Rattle.swarm_objects.specs.Agents.Messages.{assigned, due_set}
use Rattle.swarm_assign.proofs.due_sets.assigned_tasks.Given as goal

abbrev pub invariant-loop-task : goal.invariant-loop-task
invariant-loop-task g l =
    l.due ++ map assigned (filter is_from_assigned l.task-iterator) ≡ due_set (g.R.Rows.tables l.rows) l.node
