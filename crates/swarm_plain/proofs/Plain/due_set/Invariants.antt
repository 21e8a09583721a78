use Rattle.std.proofs.Common.{◌≡◌, take}
use Rattle.std.specs.Prelude.{filter, map}
use Rattle.swarm_objects.specs.Agents.Messages.{assigned, is_assigned_on}
use Rattle.swarm_plain.proofs.Plain.due_set.Given as goal

abbrev pub invariant-loop-task : goal.invariant-loop-task
invariant-loop-task l = l.due ≡ map assigned (filter (is_assigned_on l.node) (take l.task-index l.task-items))
