use Rattle.std.proofs.Common.{◌≡◌}
use Rattle.std.specs.Cmp.Lexicographic.{pointwise}
use Rattle.std.specs.Prelude.{filter, map}
use Rattle.swarm_assign.specs.Inside.Merging.{is_from_assigned}
use Rattle.swarm_objects.specs.Agents.Messages.{assigned, due_set, same_assigned}
use Rattle.swarm_assign.proofs.due_sets.is_all_sent.Given as goal

-- what is left decides
abbrev pub invariant-loop-task : goal.invariant-loop-task
invariant-loop-task g l =
    pointwise same_assigned l.left (map assigned (filter is_from_assigned l.task-iterator))
    ≡ pointwise same_assigned l.sent (due_set (g.R.Rows.tables l.rows) l.node)
