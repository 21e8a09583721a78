use Rattle.std.proofs.Common.{◌≡◌, drop}
use Rattle.std.specs.Cmp.Lexicographic.{pointwise}
use Rattle.std.specs.Prelude.{filter, map}
use Rattle.swarm_objects.specs.Agents.Messages.{assigned, due_set, is_assigned_on, same_assigned}
use Rattle.swarm_plain.specs.Plain.{tables_of}
use Rattle.plain_agents.proofs.news.is_in_step.Given as goal

abbrev pub invariant-loop-task : goal.invariant-loop-task
invariant-loop-task l =
    pointwise same_assigned (map assigned (filter (is_assigned_on l.node) (drop l.task-index l.task-items))) l.left
    ≡ pointwise same_assigned (due_set (tables_of l.plain) l.node) l.sent
